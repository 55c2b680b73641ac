use Rattle.wf_worlds.proofs.Keeping.{sound_is_kept}
use Rattle.wf_worlds.proofs.laws.sound_is_kept.Goals as goal

pub returns : goal.returns
returns c = sound_is_kept
