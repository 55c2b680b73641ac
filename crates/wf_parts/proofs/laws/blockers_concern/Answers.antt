use Rattle.wf_parts.proofs.Concerned.{blockers_concern}
use Rattle.wf_parts.proofs.laws.blockers_concern.Goals as goal

pub returns : goal.returns
returns c = blockers_concern
