use Rattle.wf_world.proofs.Plays.{runs_are_plays}
use Rattle.wf_world.proofs.laws.runs_are_plays.Goals as goal

pub returns : goal.returns
returns c = runs_are_plays
