use Rattle.wf_world.proofs.Plays.{refusals_pass}
use Rattle.wf_world.proofs.laws.refusals_pass.Goals as goal

pub returns : goal.returns
returns c = refusals_pass
