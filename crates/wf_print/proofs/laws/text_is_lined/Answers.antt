use Rattle.wf_print.proofs.LinedText.{text_is_lined}
use Rattle.wf_print.proofs.laws.text_is_lined.Goals as goal

pub returns : goal.returns
returns c = text_is_lined
