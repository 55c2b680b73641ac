use Rattle.wf_bridge.proofs.Simulating.{play_has_world}
use Rattle.wf_bridge.proofs.laws.play_has_world.Goals as goal

pub returns : goal.returns
returns c = play_has_world
