use Rattle.wf_gen_laws.proofs.Read.{divided}
use Rattle.wf_gen_laws.proofs.laws.generated_is_divided.Goals as goal

pub returns : goal.returns
returns c = divided
