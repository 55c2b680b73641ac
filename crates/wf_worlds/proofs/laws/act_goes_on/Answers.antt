use Rattle.wf_worlds.proofs.Sounds.{act_goes_on}
use Rattle.wf_worlds.proofs.laws.act_goes_on.Goals as goal

pub returns : goal.returns
returns c = act_goes_on
