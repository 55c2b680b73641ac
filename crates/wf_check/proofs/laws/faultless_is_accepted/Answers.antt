use Rattle.wf_check.proofs.Faultless.{faultless}
use Rattle.wf_check.proofs.laws.faultless_is_accepted.Goals as goal

pub returns : goal.returns
returns c = faultless
