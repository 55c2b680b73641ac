use Rattle.wf_gen_laws.proofs.Read.{read}
use Rattle.wf_gen_laws.proofs.laws.generated_is_read.Goals as goal

pub returns : goal.returns
returns c = read
