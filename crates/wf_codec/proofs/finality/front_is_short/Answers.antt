use Rattle.wf_codec.proofs.Final.{front_short}
use Rattle.wf_codec.proofs.finality.front_is_short.Goals as goal

pub returns : goal.returns
returns c = front_short
