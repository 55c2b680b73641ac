use Rattle.wf_parts.proofs.FlatSteps.{flat_step}
use Rattle.wf_parts.proofs.laws.flat_step.Goals as goal

pub returns : goal.returns
returns c = flat_step
