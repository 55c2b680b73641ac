use Rattle.std.proofs.Common.{◌≡◌, ◌<◌, ◌&&◌, ◌∙◌, Bool, List, length, get_or, rules}
use Rattle.wf_parts.specs.Reads.{is_on}
use Rattle.wf_partition.specs.Marked.{marked, triggers_at}
use Rattle.wf_partition.proofs.Bits.{row_more_by, marked_counted, marked_skipped}
use Rattle.wf_partition.proofs.Known.{trigger_at}
use Rattle.wf_partition.proofs.knowing.triggers.Goals as goal
use Rattle.wf_partition.proofs.knowing.triggers.Goals.{then-is_set, else-is_set}

pub loop-t-preserved : goal.loop-t-preserved
loop-t-preserved c =
    let chart = c.args.chart.now in
    let item = c.transition-item.result in
    let within : c.loop-t.t < length c.args.chart.now.transitions = search rules in
    let there : c.transition-item.result ≡ get_or c.args.chart.now.transitions c.loop-t.t c.transition-item.result = search rules in
    let more = λ (new : List Bool) (made : new ≡ marked (λ n. c.is_set.result && is_on n item) c.loop-t.events).
    row_more_by (λ t n. triggers_at chart c.args.concerned.now n t) (λ n. c.is_set.result && is_on n item) (length chart.events) c.loop-t.t c.loop-t.events new
    c.loop-t.invariant made (λ n low. trigger_at chart c.args.concerned.now c.loop-t.t c.is_set.result item within there c.is_set.ensures n) in
    elim c.if-is_set.branch [
      | then-is_set w ↦ more _ (w.events-is ∙ marked_counted c.is_set.result (λ n. is_on n item) c.loop-t.events w.mark_event.new.events w.if-is_set.true w.mark_event.ensures)
      | else-is_set w ↦ more _ (w.events-is ∙ marked_skipped c.is_set.result (λ n. is_on n item) c.loop-t.events w.if-is_set.false)
    ]
