use Rattle.wf_worlds.proofs.Growing.{admit_keeps}
use Rattle.wf_worlds.proofs.laws.admit_keeps.Goals as goal

pub returns : goal.returns
returns c = admit_keeps
