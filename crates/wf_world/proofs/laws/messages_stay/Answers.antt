use Rattle.wf_world.proofs.Staying.{messages_stay}
use Rattle.wf_world.proofs.laws.messages_stay.Goals as goal

pub returns : goal.returns
returns c = messages_stay
