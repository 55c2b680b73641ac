use Rattle.wf_actions.proofs.Merging.{merged_ascends, merged_of}
use Rattle.wf_actions.proofs.laws.merged_reads.Goals as goal

pub returns : goal.returns
returns c = λ writes. (merged_ascends writes, merged_of writes)
