use Rattle.std.proofs.Common.{◌≡◌, map, take}
use Rattle.wf_activities.specs.Stock.{with_sorts}
use Rattle.wf_model.specs.declared.chart.Activity.{Activity}
use Rattle.wf_activities.proofs.tables.wanted_outputs.Given as goal

abbrev pub invariant-loop-act : goal.invariant-loop-act
invariant-loop-act l = l.table ≡ map (λ (act : Activity). with_sorts l.chart act.outputs) (take l.act-index l.act-items)
