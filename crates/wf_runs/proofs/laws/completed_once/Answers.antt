use Rattle.wf_runs.proofs.LawsHold.{completed_once}
use Rattle.wf_runs.proofs.laws.completed_once.Goals as goal

pub returns : goal.returns
returns c = completed_once
