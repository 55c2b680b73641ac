use Rattle.std.proofs.Common.{◌≡◌, map, length}
use Rattle.std.specs.List.{list_any, range_with_len}
use Rattle.wf_partition.specs.Marked.{triggers_at}
use Rattle.wf_partition.proofs.knowing.triggers.Given as goal

abbrev pub invariant-loop-t : goal.invariant-loop-t
invariant-loop-t l = l.events ≡ map (λ n. list_any (triggers_at l.chart l.concerned n) (range_with_len 0 l.t)) (range_with_len 0 (length l.chart.events))
