use Rattle.wf_projection.proofs.Places.{none_there}
use Rattle.wf_projection.proofs.merging.turn_at.Goals as goal

pub returns-in-None : goal.returns-in-None
returns-in-None c = none_there c.args.turns.now c.args.at c.in-None.ensures.value
