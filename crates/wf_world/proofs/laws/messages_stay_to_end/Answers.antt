use Rattle.wf_world.proofs.Staying.{messages_stay_to_end}
use Rattle.wf_world.proofs.laws.messages_stay_to_end.Goals as goal

pub returns : goal.returns
returns c = messages_stay_to_end
