use Rattle.wf_worlds.proofs.Sounds.{whole_run}
use Rattle.wf_worlds.proofs.laws.whole_run.Goals as goal

pub returns : goal.returns
returns c = whole_run
