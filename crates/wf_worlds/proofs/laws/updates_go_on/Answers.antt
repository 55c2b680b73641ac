use Rattle.wf_worlds.proofs.GoesOn.{updates_go_on}
use Rattle.wf_worlds.proofs.laws.updates_go_on.Goals as goal

pub returns : goal.returns
returns c = updates_go_on
