use Rattle.wf_bridge.proofs.Simulating.{line_has_world}
use Rattle.wf_bridge.proofs.laws.line_has_world.Goals as goal

pub returns : goal.returns
returns c = line_has_world
