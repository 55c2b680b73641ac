use Rattle.wf_worlds.proofs.Sounds.{stands_sound}
use Rattle.wf_worlds.proofs.laws.stands_sound.Goals as goal

pub returns : goal.returns
returns c = stands_sound
