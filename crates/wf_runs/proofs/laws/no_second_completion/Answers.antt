use Rattle.wf_runs.proofs.LawsHold.{no_second_completion}
use Rattle.wf_runs.proofs.laws.no_second_completion.Goals as goal

pub returns : goal.returns
returns c = no_second_completion
