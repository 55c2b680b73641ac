use Rattle.wf_owns.proofs.Sorting.{cut_is_fit}
use Rattle.wf_owns.proofs.laws.cut_is_fit.Goals as goal

pub returns : goal.returns
returns c = cut_is_fit
