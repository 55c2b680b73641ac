use Rattle.std.proofs.Common.{◌≡◌, ◌-◌}
use Rattle.wf_model.specs.Tree.{ancestors_by, parent, is_above, is_among}
use Rattle.wf_check.proofs.tree.is_above.Given as goal

abbrev pub invariant-loop-step : goal.invariant-loop-step
invariant-loop-step l = is_above l.chart l.a l.s ≡ is_among (ancestors_by (parent l.chart) (l.s - l._step) l.at) l.a
