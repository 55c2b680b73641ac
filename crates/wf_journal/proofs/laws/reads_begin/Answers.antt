use Rattle.wf_journal.proofs.Starts.{begins}
use Rattle.wf_journal.proofs.laws.reads_begin.Goals as goal

pub returns : goal.returns
returns c = begins
