use Rattle.wf_activities.proofs.LawsHold.{grows_by_step}
use Rattle.wf_activities.proofs.laws.grows_by_step.Goals as goal

pub returns : goal.returns
returns c = grows_by_step
