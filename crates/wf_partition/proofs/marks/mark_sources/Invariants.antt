use Rattle.std.proofs.Common.{◌≡◌}
use Rattle.std.specs.List.{list_any, range_with_len}
use Rattle.wf_partition.specs.Marked.{marked, leads_from}
use Rattle.wf_partition.proofs.marks.mark_sources.Given as goal

abbrev pub invariant-loop-t : goal.invariant-loop-t
invariant-loop-t l = l.bits ≡ marked (λ s. list_any (leads_from l.chart l.concerned s) (range_with_len 0 l.t)) l.initial.bits
