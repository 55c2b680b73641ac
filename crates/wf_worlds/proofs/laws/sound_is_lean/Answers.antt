use Rattle.wf_worlds.proofs.Sounds.{sound_is_lean}
use Rattle.wf_worlds.proofs.laws.sound_is_lean.Goals as goal

pub returns : goal.returns
returns c = sound_is_lean
