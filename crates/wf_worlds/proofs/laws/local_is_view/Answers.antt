use Rattle.wf_worlds.proofs.Keeping.{local_is_view}
use Rattle.wf_worlds.proofs.laws.local_is_view.Goals as goal

pub returns : goal.returns
returns c = local_is_view
