use Rattle.wf_top.proofs.Ends.{ends_show}
use Rattle.wf_top.proofs.laws.ends_show_outcomes.Goals as goal

pub returns : goal.returns
returns c = ends_show
