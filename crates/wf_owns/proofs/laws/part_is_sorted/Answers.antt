use Rattle.wf_owns.proofs.Sorting.{part_is_sorted}
use Rattle.wf_owns.proofs.laws.part_is_sorted.Goals as goal

pub returns : goal.returns
returns c = part_is_sorted
