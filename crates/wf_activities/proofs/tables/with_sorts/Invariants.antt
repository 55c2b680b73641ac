use Rattle.std.proofs.Common.{◌≡◌, take}
use Rattle.wf_activities.specs.Stock.{with_sorts}
use Rattle.wf_activities.proofs.tables.with_sorts.Given as goal

abbrev pub invariant-loop-x : goal.invariant-loop-x
invariant-loop-x l = l.pairs ≡ with_sorts l.chart (take l.x-index l.outputs)
