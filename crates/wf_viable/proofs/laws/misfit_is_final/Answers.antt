use Rattle.wf_viable.proofs.Places.{misfit_is_final}
use Rattle.wf_viable.proofs.laws.misfit_is_final.Goals as goal

pub returns : goal.returns
returns c = misfit_is_final
