use Rattle.wf_bridge.proofs.Full.{journal_never_full}
use Rattle.wf_bridge.proofs.laws.journal_never_full.Goals as goal

pub returns : goal.returns
returns c = journal_never_full
