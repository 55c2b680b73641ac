use Rattle.wf_readback.proofs.Slices.{cut_is_answered}
use Rattle.wf_readback.proofs.laws.cut_is_answered.Goals as goal

pub returns : goal.returns
returns c = cut_is_answered
