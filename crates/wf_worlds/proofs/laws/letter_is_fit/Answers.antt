use Rattle.wf_worlds.proofs.Keeping.{letter_is_fit}
use Rattle.wf_worlds.proofs.laws.letter_is_fit.Goals as goal

pub returns : goal.returns
returns c = letter_is_fit
