use Rattle.wf_runs.proofs.LawsHold.{starts_are_in_order}
use Rattle.wf_runs.proofs.laws.starts_are_in_order.Goals as goal

pub returns : goal.returns
returns c = starts_are_in_order
