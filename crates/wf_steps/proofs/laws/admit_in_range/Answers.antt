use Rattle.wf_steps.proofs.Made.{admit_in_range}
use Rattle.wf_steps.proofs.laws.admit_in_range.Goals as goal

pub returns : goal.returns
returns c = admit_in_range
