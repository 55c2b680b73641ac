use Rattle.std.proofs.Common.{◌≡◌, true, subst}
use Rattle.wf_model.specs.declared.chart.Chart.{Chart}
use Rattle.wf_print.proofs.LinedText.{text_is_lined}
use Rattle.wf_readback.specs.Held.{is_held}
use Rattle.wf_readback.proofs.Lined.{texts_of}
use Rattle.wf_readback.proofs.checked.checked_is_lined.Goals as goal

pub returns : goal.returns
returns c =
    let held = subst (λ (x : Chart). is_held x ≡ true) c.chart.ensures.same c.chart_is_held.ensures in
    text_is_lined c.args.checked.now c.chart.ensures.accepted (texts_of c.args.checked.now held)
