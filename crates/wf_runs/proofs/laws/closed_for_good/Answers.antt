use Rattle.wf_runs.proofs.LawsHold.{closed_for_good}
use Rattle.wf_runs.proofs.laws.closed_for_good.Goals as goal

pub returns : goal.returns
returns c = closed_for_good
