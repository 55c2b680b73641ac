use Rattle.wf_gen.proofs.Sealed.{generated}
use Rattle.wf_gen.proofs.laws.generated_is_accepted.Goals as goal

pub returns : goal.returns
returns c = generated
