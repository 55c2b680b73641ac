use Rattle.wf_actions.proofs.Merging.{cuts}
use Rattle.wf_actions.proofs.laws.cuts_do_not_matter.Goals as goal

pub returns : goal.returns
returns c = cuts
