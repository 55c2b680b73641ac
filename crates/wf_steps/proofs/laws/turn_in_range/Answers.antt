use Rattle.wf_steps.proofs.Made.{turn_in_range}
use Rattle.wf_steps.proofs.laws.turn_in_range.Goals as goal

pub returns : goal.returns
returns c = turn_in_range
