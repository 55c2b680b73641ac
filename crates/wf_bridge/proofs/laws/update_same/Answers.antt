use Rattle.wf_bridge.proofs.Sharing.{update_same}
use Rattle.wf_bridge.proofs.laws.update_same.Goals as goal

pub returns : goal.returns
returns c = update_same
