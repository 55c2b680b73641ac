use Rattle.wf_hosted.proofs.Told.{answers_are_told}
use Rattle.wf_hosted.proofs.laws.answers_are_told.Goals as goal

pub returns : goal.returns
returns c = answers_are_told
