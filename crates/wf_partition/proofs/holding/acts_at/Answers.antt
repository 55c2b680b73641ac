use Rattle.std.proofs.Common.{◌≡◌, ◌<◌, ◌∙◌, length, map, get_or, rules, ap}
use Rattle.std.specs.List.{range_with_len}
use Rattle.wf_semantics.specs.Admission.{is_act_at}
use Rattle.wf_model.proofs.Rows.{row_more}
use Rattle.wf_partition.proofs.KnownBits.{act_at}
use Rattle.wf_partition.proofs.holding.acts_at.Goals as goal

pub loop-act-preserved : goal.loop-act-preserved
loop-act-preserved c =
    let within : c.loop-act.act-index < length c.args.chart.now.acts = search rules in
    let there : c.act-item.result ≡ get_or c.args.chart.now.acts c.loop-act.act-index c.act-item.result = search rules in
    c.in_ok-push.ensures.ok
    ∙ row_more (is_act_at c.args.chart.now c.args.unit.0) c.loop-act.act-index c.loop-act.bits _ c.loop-act.invariant (act_at c.args.chart.now c.args.unit.0 c.loop-act.act-index c.act-item.result within there)

pub returns : goal.returns
returns c =
    let all : c.loop-act.act-index ≡ length c.args.chart.now.acts = search rules in
    c.loop-act.invariant ∙ ap (λ n. map (is_act_at c.args.chart.now c.args.unit.0) (range_with_len 0 n)) all
