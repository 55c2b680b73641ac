use Rattle.wf_bridge.proofs.Bridging.{letter_same}
use Rattle.wf_bridge.proofs.laws.letter_same.Goals as goal

pub returns : goal.returns
returns c = letter_same
