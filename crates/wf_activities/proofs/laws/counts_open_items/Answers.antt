use Rattle.wf_activities.proofs.LawsHold.{counts_open_items}
use Rattle.wf_activities.proofs.laws.counts_open_items.Goals as goal

pub returns : goal.returns
returns c = counts_open_items
