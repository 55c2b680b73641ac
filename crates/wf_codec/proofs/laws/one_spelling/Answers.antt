use Rattle.wf_codec.proofs.Decoded.{one_spelling}
use Rattle.wf_codec.proofs.laws.one_spelling.Goals as goal

pub returns : goal.returns
returns c = one_spelling
