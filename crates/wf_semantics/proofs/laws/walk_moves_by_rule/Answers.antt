use Rattle.wf_semantics.proofs.LawsHold.{walk_moves_by_rule}
use Rattle.wf_semantics.proofs.laws.walk_moves_by_rule.Goals as goal

pub returns : goal.returns
returns c = walk_moves_by_rule
