use Rattle.wf_viable.proofs.Places.{read_is_shaped}
use Rattle.wf_viable.proofs.laws.read_is_shaped.Goals as goal

pub returns : goal.returns
returns c = read_is_shaped
