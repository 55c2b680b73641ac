use Rattle.wf_activities.proofs.Admitting.{completes_by_admission}
use Rattle.wf_activities.proofs.laws.completes_by_admission.Goals as goal

pub returns : goal.returns
returns c = completes_by_admission
