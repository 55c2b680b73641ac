use Rattle.wf_runs.proofs.LawsHold.{numbers_go_on}
use Rattle.wf_runs.proofs.laws.numbers_go_on.Goals as goal

pub returns : goal.returns
returns c = numbers_go_on
