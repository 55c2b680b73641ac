use Rattle.wf_worlds.proofs.Sounds.{act_sound}
use Rattle.wf_worlds.proofs.laws.act_sound.Goals as goal

pub returns : goal.returns
returns c = act_sound
