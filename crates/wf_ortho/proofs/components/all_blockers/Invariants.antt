use Rattle.std.proofs.Common.{◌≡◌, map}
use Rattle.std.specs.List.{range_with_len}
use Rattle.wf_parts.specs.Components.{blocker_ids}
use Rattle.wf_ortho.proofs.components.all_blockers.Given as goal

abbrev pub invariant-loop-t : goal.invariant-loop-t
invariant-loop-t l = l.table ≡ map (blocker_ids l.chart) (range_with_len 0 l.t)
