use Rattle.wf_gen_laws.proofs.Unarmed.{bulks_have_one_answer}
use Rattle.wf_gen_laws.proofs.laws.bulks_have_one_answer.Goals as goal

pub returns : goal.returns
returns c = bulks_have_one_answer
