use Rattle.wf_hosted.proofs.Together.{histories_still_agree}
use Rattle.wf_hosted.proofs.laws.histories_still_agree.Goals as goal

pub returns : goal.returns
returns c = histories_still_agree
