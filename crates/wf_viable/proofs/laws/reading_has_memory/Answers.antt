use Rattle.wf_viable.proofs.Memory.{reading_has_memory}
use Rattle.wf_viable.proofs.laws.reading_has_memory.Goals as goal

pub returns : goal.returns
returns c = reading_has_memory
