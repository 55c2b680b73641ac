use Rattle.std.proofs.Common.{◌≡◌, map}
use Rattle.std.specs.List.{range_with_len}
use Rattle.wf_semantics.specs.Run.{open_now}
use Rattle.wf_activities.specs.Stock.{items_in}
use Rattle.wf_activities.proofs.completions.open_counts_then.Given as goal

abbrev pub invariant-loop-a : goal.invariant-loop-a
invariant-loop-a l = l.counts ≡ map (open_now l.chart (items_in l.units) l.entries) (range_with_len 0 l.a)
