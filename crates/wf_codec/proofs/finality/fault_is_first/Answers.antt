use Rattle.wf_codec.proofs.Final.{fault_first}
use Rattle.wf_codec.proofs.finality.fault_is_first.Goals as goal

pub returns : goal.returns
returns c = fault_first
