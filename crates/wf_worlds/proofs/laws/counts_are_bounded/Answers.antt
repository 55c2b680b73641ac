use Rattle.wf_worlds.proofs.Counted.{counts_are_bounded}
use Rattle.wf_worlds.proofs.laws.counts_are_bounded.Goals as goal

pub returns : goal.returns
returns c = counts_are_bounded
