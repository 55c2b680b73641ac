use Rattle.wf_worlds.proofs.Keeping.{local_update_in_range}
use Rattle.wf_worlds.proofs.laws.local_update_in_range.Goals as goal

pub returns : goal.returns
returns c = local_update_in_range
