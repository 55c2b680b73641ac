use Rattle.wf_bridge.proofs.Bridging.{central_same}
use Rattle.wf_bridge.proofs.laws.central_same.Goals as goal

pub returns : goal.returns
returns c = central_same
