use Rattle.std.specs.List.{list_any, range_with_len}
use Rattle.wf_partition.specs.Marked.{Holds, has_at}
use Rattle.wf_partition.proofs.holding.add_own.Given as goal

abbrev pub invariant-loop-transition : goal.invariant-loop-transition
invariant-loop-transition l = Holds (λ t. list_any (has_at l.chart l.unit.0 t) (range_with_len 0 l.transition-index)) l.initial.held l.held
