use Rattle.wf_semantics.proofs.LawsHold.{trees_read}
use Rattle.wf_semantics.proofs.laws.trees_read.Goals as goal

pub returns : goal.returns
returns c = trees_read
