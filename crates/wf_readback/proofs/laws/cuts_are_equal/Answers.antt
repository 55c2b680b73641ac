use Rattle.wf_readback.proofs.Slices.{cuts_are_equal}
use Rattle.wf_readback.proofs.laws.cuts_are_equal.Goals as goal

pub returns : goal.returns
returns c = cuts_are_equal
