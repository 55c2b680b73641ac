use Rattle.std.proofs.Common.{◌≡◌, true, subst}
use Rattle.wf_model.specs.declared.chart.Chart.{Chart}
use Rattle.wf_readback.specs.Held.{is_held}
use Rattle.wf_readback.proofs.Spelled.{chart_is_spelled}
use Rattle.wf_readback.proofs.checked.checked_is_spelled.Goals as goal

pub returns : goal.returns
returns c =
    chart_is_spelled c.args.checked.now c.chart.ensures.accepted (subst (λ (x : Chart). is_held x ≡ true) c.chart.ensures.same c.chart_is_held.ensures)
