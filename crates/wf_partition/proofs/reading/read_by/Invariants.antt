use Rattle.std.specs.List.{list_any, range_with_len}
use Rattle.wf_partition.specs.Marked.{AreReads, reads_at}
use Rattle.wf_partition.proofs.reading.read_by.Given as goal

abbrev pub invariant-loop-t : goal.invariant-loop-t
invariant-loop-t l = AreReads l.chart (λ r. list_any (reads_at l.chart l.unit.0 r) (range_with_len 0 l.t)) l.reads
