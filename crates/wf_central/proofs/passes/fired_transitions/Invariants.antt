use Rattle.std.proofs.Common.{◌≡◌, map, filter}
use Rattle.std.specs.List.{range_with_len}
use Rattle.wf_central.specs.Passes.{fired_by}
use Rattle.wf_central.proofs.passes.fired_transitions.Given as goal
use Rattle.wf_model.specs.Ids.{trans_id}

abbrev pub invariant-loop-t : goal.invariant-loop-t
invariant-loop-t l = l.ids ≡ map trans_id (filter (fired_by l.chart l.firing) (range_with_len 0 l.t))
