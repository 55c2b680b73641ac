use Rattle.wf_owns.proofs.Sorting.{first_is_sorted}
use Rattle.wf_owns.proofs.laws.first_is_sorted.Goals as goal

pub returns : goal.returns
returns c = first_is_sorted
