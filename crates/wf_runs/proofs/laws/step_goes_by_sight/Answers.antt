use Rattle.wf_runs.proofs.LawsHold.{step_goes_by_sight}
use Rattle.wf_runs.proofs.laws.step_goes_by_sight.Goals as goal

pub returns : goal.returns
returns c = step_goes_by_sight
