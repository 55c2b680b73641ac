use Rattle.wf_owns.proofs.Sorting.{absorbed_is_sorted}
use Rattle.wf_owns.proofs.laws.absorbed_is_sorted.Goals as goal

pub returns : goal.returns
returns c = absorbed_is_sorted
