use Rattle.wf_semantics.proofs.LawsHold.{entry_tree_fits}
use Rattle.wf_semantics.proofs.laws.entry_tree_fits.Goals as goal

pub returns : goal.returns
returns c = entry_tree_fits
