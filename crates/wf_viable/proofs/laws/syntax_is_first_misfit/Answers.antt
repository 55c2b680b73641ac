use Rattle.wf_viable.proofs.Places.{syntax_is_first_misfit}
use Rattle.wf_viable.proofs.laws.syntax_is_first_misfit.Goals as goal

pub returns : goal.returns
returns c = syntax_is_first_misfit
