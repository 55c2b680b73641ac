use Rattle.wf_bridge.proofs.Bridging.{entries_same}
use Rattle.wf_bridge.proofs.laws.entries_same.Goals as goal

pub returns : goal.returns
returns c = entries_same
