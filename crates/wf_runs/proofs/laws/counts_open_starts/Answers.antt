use Rattle.wf_runs.proofs.LawsHold.{counts_open_starts}
use Rattle.wf_runs.proofs.laws.counts_open_starts.Goals as goal

pub returns : goal.returns
returns c = counts_open_starts
