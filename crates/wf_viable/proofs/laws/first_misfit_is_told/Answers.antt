use Rattle.wf_viable.proofs.Places.{first_misfit_is_told}
use Rattle.wf_viable.proofs.laws.first_misfit_is_told.Goals as goal

pub returns : goal.returns
returns c = first_misfit_is_told
