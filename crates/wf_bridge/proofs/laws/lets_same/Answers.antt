use Rattle.wf_bridge.proofs.Bridging.{lets_same}
use Rattle.wf_bridge.proofs.laws.lets_same.Goals as goal

pub returns : goal.returns
returns c = lets_same
