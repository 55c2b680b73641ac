use Rattle.wf_runs.proofs.LawsHold.{starts_keep_numbers}
use Rattle.wf_runs.proofs.laws.starts_keep_numbers.Goals as goal

pub returns : goal.returns
returns c = starts_keep_numbers
