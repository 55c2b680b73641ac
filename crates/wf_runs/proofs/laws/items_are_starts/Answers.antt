use Rattle.wf_runs.proofs.LawsHold.{items_are_starts}
use Rattle.wf_runs.proofs.laws.items_are_starts.Goals as goal

pub returns : goal.returns
returns c = items_are_starts
