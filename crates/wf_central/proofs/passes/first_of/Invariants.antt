use Rattle.std.proofs.Common.{◌≡◌, drop}
use Rattle.wf_central.specs.Passes.{first_ids}
use Rattle.wf_central.proofs.passes.first_of.Given as goal

abbrev pub invariant-loop-a : goal.invariant-loop-a
invariant-loop-a l = first_ids l.firing (drop l.a-index l.above) ≡ first_ids l.firing l.above
