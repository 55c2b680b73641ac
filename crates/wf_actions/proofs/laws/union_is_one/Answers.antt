use Rattle.wf_actions.proofs.Ascending.{one_union}
use Rattle.wf_actions.proofs.laws.union_is_one.Goals as goal

pub returns : goal.returns
returns c = one_union
