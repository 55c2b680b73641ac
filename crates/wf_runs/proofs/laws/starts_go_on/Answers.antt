use Rattle.wf_runs.proofs.LawsHold.{starts_go_on}
use Rattle.wf_runs.proofs.laws.starts_go_on.Goals as goal

pub returns : goal.returns
returns c = starts_go_on
