use Rattle.wf_codec.proofs.Lengths.{spelling_short}
use Rattle.wf_codec.proofs.laws.spelling_is_short.Goals as goal

pub returns : goal.returns
returns c = spelling_short
