use Rattle.wf_codec.proofs.Decoded.{decoded_again}
use Rattle.wf_codec.proofs.laws.spelled_is_decoded.Goals as goal

pub returns : goal.returns
returns c = decoded_again
