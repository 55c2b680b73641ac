use Rattle.wf_check.proofs.Faultless.{accepted}
use Rattle.wf_check.proofs.laws.accepted_has_no_fault.Goals as goal

pub returns : goal.returns
returns c = accepted
