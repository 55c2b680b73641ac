use Rattle.wf_owns.proofs.Ranged.{own_in_range}
use Rattle.wf_owns.proofs.laws.own_in_range.Goals as goal

pub returns : goal.returns
returns c = own_in_range
