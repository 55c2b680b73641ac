use Rattle.std.proofs.Common.{◌≡◌, [], map}
use Rattle.std.specs.List.{range_with_len}
use Rattle.wf_activities.specs.Completed.{done_by}
use Rattle.wf_activities.proofs.completions.zeros.Given as goal

abbrev pub invariant-loop-act : goal.invariant-loop-act
invariant-loop-act l = l.counts.items ≡ map (done_by l.chart []) (range_with_len 0 l._act-index)
