use Rattle.wf_activities.proofs.LawsHold.{closes_one}
use Rattle.wf_activities.proofs.laws.closes_one.Goals as goal

pub returns : goal.returns
returns c = closes_one
