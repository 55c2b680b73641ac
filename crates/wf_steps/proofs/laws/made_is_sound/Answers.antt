use Rattle.wf_steps.proofs.Made.{made_is_sound}
use Rattle.wf_steps.proofs.laws.made_is_sound.Goals as goal

pub returns : goal.returns
returns c = made_is_sound
