use Rattle.wf_semantics.proofs.LawsHold.{walk_keeps_configurations}
use Rattle.wf_semantics.proofs.laws.walk_keeps_configurations.Goals as goal

pub returns : goal.returns
returns c = walk_keeps_configurations
