use Rattle.wf_check.proofs.Memory.{checking_has_memory}
use Rattle.wf_check.proofs.laws.checking_has_memory.Goals as goal

pub returns : goal.returns
returns c = checking_has_memory
