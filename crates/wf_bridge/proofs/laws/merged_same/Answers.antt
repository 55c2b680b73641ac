use Rattle.wf_bridge.proofs.Placing.{merged_same}
use Rattle.wf_bridge.proofs.laws.merged_same.Goals as goal

pub returns : goal.returns
returns c = merged_same
