use Rattle.std.proofs.Common.{◌≡◌, true, subst}
use Rattle.wf_model.specs.declared.chart.Chart.{Chart}
use Rattle.wf_readback.specs.Held.{is_held}
use Rattle.wf_readback.proofs.Spelled.{chart_is_read_back, short_text_is_read_back}
use Rattle.wf_readback.proofs.checked.checked_is_read_back.Goals as goal

pub returns : goal.returns
returns c =
    let held = subst (λ (x : Chart). is_held x ≡ true) c.chart.ensures.same c.chart_is_held.ensures in
    record {
      few_tokens = λ tokens cut few. chart_is_read_back c.args.checked.now tokens c.chart.ensures.accepted held cut few;
      few_bytes = short_text_is_read_back c.args.checked.now c.chart.ensures.accepted held;
    }
