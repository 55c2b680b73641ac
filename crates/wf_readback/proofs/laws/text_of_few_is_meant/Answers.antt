use Rattle.wf_readback.proofs.Spelled.{text_of_few_is_meant}
use Rattle.wf_readback.proofs.laws.text_of_few_is_meant.Goals as goal

pub returns : goal.returns
returns c = text_of_few_is_meant
