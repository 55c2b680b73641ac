use Rattle.wf_owns.proofs.Sorting.{sees_sorts}
use Rattle.wf_owns.proofs.laws.sees_sorts.Goals as goal

pub returns : goal.returns
returns c = sees_sorts
