use Rattle.wf_hosted.proofs.Told.{made_is_distinct}
use Rattle.wf_hosted.proofs.laws.made_is_distinct.Goals as goal

pub returns : goal.returns
returns c = made_is_distinct
