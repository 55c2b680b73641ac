use Rattle.wf_bridge.proofs.Simulating.{first_has_world}
use Rattle.wf_bridge.proofs.laws.first_has_world.Goals as goal

pub returns : goal.returns
returns c = first_has_world
