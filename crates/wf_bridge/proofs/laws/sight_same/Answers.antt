use Rattle.wf_bridge.proofs.Bridging.{sight_same}
use Rattle.wf_bridge.proofs.laws.sight_same.Goals as goal

pub returns : goal.returns
returns c = sight_same
