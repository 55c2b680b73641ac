use Rattle.wf_steps.proofs.Made.{updates_in_range}
use Rattle.wf_steps.proofs.laws.updates_in_range.Goals as goal

pub returns : goal.returns
returns c = updates_in_range
