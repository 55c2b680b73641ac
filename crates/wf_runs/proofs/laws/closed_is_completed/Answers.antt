use Rattle.wf_runs.proofs.LawsHold.{closed_is_completed}
use Rattle.wf_runs.proofs.laws.closed_is_completed.Goals as goal

pub returns : goal.returns
returns c = closed_is_completed
