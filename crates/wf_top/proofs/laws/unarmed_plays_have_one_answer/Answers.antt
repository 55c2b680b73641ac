use Rattle.wf_top.proofs.Unarmed.{unarmed_plays}
use Rattle.wf_top.proofs.laws.unarmed_plays_have_one_answer.Goals as goal

pub returns : goal.returns
returns c = unarmed_plays
