use Rattle.wf_viable.proofs.Places.{spelled_is_shaped}
use Rattle.wf_viable.proofs.laws.spelled_is_shaped.Goals as goal

pub returns : goal.returns
returns c = spelled_is_shaped
