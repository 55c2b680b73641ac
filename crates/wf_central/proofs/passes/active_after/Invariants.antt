use Rattle.std.proofs.Common.{◌≡◌, map}
use Rattle.std.specs.List.{range_with_len}
use Rattle.wf_central.specs.Passes.{moved_by}
use Rattle.wf_central.proofs.passes.active_after.Given as goal

abbrev pub invariant-loop-z : goal.invariant-loop-z
invariant-loop-z l = l.bits ≡ map (moved_by l.chart l.active l.firing) (range_with_len 0 l.z)
