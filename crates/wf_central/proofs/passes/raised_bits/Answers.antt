use Rattle.std.proofs.Common.{[], length, map, ap, ◌∙◌}
use Rattle.std.specs.List.{range_with_len}
use Rattle.wf_central.specs.Sight.{was_raised}
use Rattle.wf_central.proofs.Marking.{none_marked, mark_more}
use Rattle.wf_central.proofs.passes.raised_bits.Goals as goal

pub loop-event-init : goal.loop-event-init
loop-event-init c =
    c.in_ok-bits.ensures ∙ none_marked c.len.result ∙ ap (λ n. map (was_raised []) (range_with_len 0 n)) c.len.ensures

pub loop-event-preserved : goal.loop-event-preserved
loop-event-preserved c =
    c.set.ensures
    ∙ mark_more c.args.raised.now (length c.args.chart.now.events) c.loop-event.event-index (record { 0 = 0 }) c.loop-event.bits c.loop-event-test.true c.loop-event.invariant
