use Rattle.wf_parts.proofs.Concerned.{own_concerns}
use Rattle.wf_parts.proofs.laws.own_concerns.Goals as goal

pub returns : goal.returns
returns c = own_concerns
