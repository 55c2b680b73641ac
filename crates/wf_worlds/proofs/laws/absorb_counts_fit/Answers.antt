use Rattle.wf_worlds.proofs.Counted.{absorb_counts_fit}
use Rattle.wf_worlds.proofs.laws.absorb_counts_fit.Goals as goal

pub returns : goal.returns
returns c = absorb_counts_fit
