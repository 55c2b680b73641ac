use Rattle.std.proofs.Common.{◌≡◌, length, map, take}
use Rattle.std.specs.List.{range_with_len}
use Rattle.wf_activities.specs.Completed.{done_by}
use Rattle.wf_activities.proofs.completions.done_counts.Given as goal

abbrev pub invariant-loop-entry : goal.invariant-loop-entry
invariant-loop-entry l = l.counts.items ≡ map (done_by l.chart (take l.entry-index l.entries)) (range_with_len 0 (length l.chart.acts))
