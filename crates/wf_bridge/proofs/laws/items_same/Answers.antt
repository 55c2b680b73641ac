use Rattle.wf_bridge.proofs.Bridging.{items_same}
use Rattle.wf_bridge.proofs.laws.items_same.Goals as goal

pub returns : goal.returns
returns c = items_same
