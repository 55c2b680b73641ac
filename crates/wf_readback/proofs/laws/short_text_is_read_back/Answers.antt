use Rattle.wf_readback.proofs.Spelled.{short_text_is_read_back}
use Rattle.wf_readback.proofs.laws.short_text_is_read_back.Goals as goal

pub returns : goal.returns
returns c = short_text_is_read_back
