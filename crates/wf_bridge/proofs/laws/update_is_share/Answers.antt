use Rattle.wf_bridge.proofs.Sharing.{update_is_share}
use Rattle.wf_bridge.proofs.laws.update_is_share.Goals as goal

pub returns : goal.returns
returns c = update_is_share
