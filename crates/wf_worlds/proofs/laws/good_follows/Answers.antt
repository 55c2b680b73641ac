use Rattle.wf_worlds.proofs.Growing.{good_follows}
use Rattle.wf_worlds.proofs.laws.good_follows.Goals as goal

pub returns : goal.returns
returns c = good_follows
