use Rattle.wf_bridge.proofs.Placing.{letter_cut}
use Rattle.wf_bridge.proofs.laws.letter_cut.Goals as goal

pub returns : goal.returns
returns c = letter_cut
