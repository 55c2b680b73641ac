use Rattle.wf_semantics.proofs.LawsHold.{run_goes_by_rule}
use Rattle.wf_semantics.proofs.laws.run_goes_by_rule.Goals as goal

pub returns : goal.returns
returns c = run_goes_by_rule
