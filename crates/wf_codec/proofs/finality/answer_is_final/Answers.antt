use Rattle.wf_codec.proofs.Final.{answer_final}
use Rattle.wf_codec.proofs.finality.answer_is_final.Goals as goal

pub returns : goal.returns
returns c = answer_final
