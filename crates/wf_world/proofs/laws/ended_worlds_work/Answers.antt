use Rattle.wf_world.proofs.Working.{ended_work}
use Rattle.wf_world.proofs.laws.ended_worlds_work.Goals as goal

pub returns : goal.returns
returns c = ended_work
