use Rattle.std.proofs.Common.{◌≡◌, map, take}
use Rattle.wf_central.proofs.state.first_values.Given as goal

abbrev pub invariant-loop-variable : goal.invariant-loop-variable
invariant-loop-variable l = l.values ≡ map (λ x. x.first) (take l.variable-index l.chart.vars)
