use Rattle.wf_activities.proofs.LawsHold.{closed_stays_closed}
use Rattle.wf_activities.proofs.laws.closed_stays_closed.Goals as goal

pub returns : goal.returns
returns c = closed_stays_closed
