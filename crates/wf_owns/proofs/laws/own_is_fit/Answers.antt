use Rattle.wf_owns.proofs.Sorting.{own_is_fit}
use Rattle.wf_owns.proofs.laws.own_is_fit.Goals as goal

pub returns : goal.returns
returns c = own_is_fit
