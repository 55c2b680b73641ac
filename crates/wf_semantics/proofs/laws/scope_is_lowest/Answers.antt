use Rattle.wf_semantics.proofs.LawsHold.{scope_is_lowest}
use Rattle.wf_semantics.proofs.laws.scope_is_lowest.Goals as goal

pub returns : goal.returns
returns c = scope_is_lowest
