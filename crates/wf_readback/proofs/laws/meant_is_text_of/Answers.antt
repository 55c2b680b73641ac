use Rattle.wf_readback.proofs.Spelled.{meant_is_text_of}
use Rattle.wf_readback.proofs.laws.meant_is_text_of.Goals as goal

pub returns : goal.returns
returns c = meant_is_text_of
