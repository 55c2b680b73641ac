use Rattle.wf_codec.proofs.Final.{fault_at_once}
use Rattle.wf_codec.proofs.finality.fault_comes_at_once.Goals as goal

pub returns : goal.returns
returns c = fault_at_once
