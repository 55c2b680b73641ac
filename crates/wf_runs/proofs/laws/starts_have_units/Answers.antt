use Rattle.wf_runs.proofs.LawsHold.{starts_have_units}
use Rattle.wf_runs.proofs.laws.starts_have_units.Goals as goal

pub returns : goal.returns
returns c = starts_have_units
