use Rattle.wf_worlds.proofs.Growing.{turn_keeps}
use Rattle.wf_worlds.proofs.laws.turn_keeps.Goals as goal

pub returns : goal.returns
returns c = turn_keeps
