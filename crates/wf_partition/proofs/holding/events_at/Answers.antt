use Rattle.std.proofs.Common.{◌≡◌, ◌<◌, ◌∙◌, length, map, get_or, rules, ap}
use Rattle.std.specs.List.{range_with_len}
use Rattle.wf_semantics.specs.Admission.{is_event_at}
use Rattle.wf_model.proofs.Rows.{row_more}
use Rattle.wf_partition.proofs.KnownBits.{event_at}
use Rattle.wf_partition.proofs.holding.events_at.Goals as goal

pub loop-event-preserved : goal.loop-event-preserved
loop-event-preserved c =
    let within : c.loop-event.event-index < length c.args.chart.now.events = search rules in
    let there : c.event-item.result ≡ get_or c.args.chart.now.events c.loop-event.event-index c.event-item.result = search rules in
    c.in_ok-push.ensures.ok
    ∙ row_more (is_event_at c.args.chart.now c.args.unit.0) c.loop-event.event-index c.loop-event.bits _ c.loop-event.invariant (c.is_at.ensures ∙ event_at c.args.chart.now c.args.unit.0 c.loop-event.event-index c.event-item.result within there)

pub returns : goal.returns
returns c =
    let all : c.loop-event.event-index ≡ length c.args.chart.now.events = search rules in
    c.loop-event.invariant ∙ ap (λ n. map (is_event_at c.args.chart.now c.args.unit.0) (range_with_len 0 n)) all
