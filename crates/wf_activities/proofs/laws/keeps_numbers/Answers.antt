use Rattle.wf_activities.proofs.LawsHold.{keeps_numbers}
use Rattle.wf_activities.proofs.laws.keeps_numbers.Goals as goal

pub returns : goal.returns
returns c = keeps_numbers
