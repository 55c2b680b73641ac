use Rattle.std.proofs.Common.{◌≡◌}
use Rattle.std.specs.List.{list_any, range_with_len}
use Rattle.wf_partition.specs.Marked.{marked, gives_at}
use Rattle.wf_partition.proofs.holding.mark_given.Given as goal

abbrev pub invariant-loop-act : goal.invariant-loop-act
invariant-loop-act l = l.vars ≡ marked (λ x. list_any (gives_at l.chart l.unit.0 x) (range_with_len 0 l.act-index)) l.initial.vars
