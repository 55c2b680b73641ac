use Rattle.std.proofs.Common.{false, ◌≡◌, ◌<◌, ◌∙◌, length, get_or, rules, sym, arith, refl}
use Rattle.wf_parts.specs.Known.{knows_event}
use Rattle.wf_parts.specs.Parts.{known_event}
use Rattle.wf_model.proofs.Few.{few_events}
use Rattle.wf_model.proofs.Rows.{row_at}
use Rattle.wf_partition.proofs.Numbered.{kept, left_out, all_kept}
use Rattle.wf_partition.proofs.lists.events_of.Goals as goal
use Rattle.wf_partition.proofs.lists.events_of.Goals.{then-is_set+in_ok-push, else-is_set}

pub loop-n-preserved : goal.loop-n-preserved
loop-n-preserved c =
    let chart = c.args.chart.now in
    let within : c.loop-n.n < length c.args.chart.now.events = search rules in
    let there : c.event-item.result ≡ get_or c.args.chart.now.events c.loop-n.n c.event-item.result = search rules in
    let known = c.is_set.ensures ∙ row_at (knows_event chart c.args.unit.0) (length chart.events) c.loop-n.n false c.args.known.now c.requires.known within in
    elim c.if-is_set.branch [
      | then-is_set+in_ok-push w ↦ w.events-is
          ∙ kept known_event (knows_event chart c.args.unit.0) chart.events c.loop-n.n c.event-item.result _ c.loop-n.events w.push.new.self within there (sym known ∙ w.if-is_set.true)
          (refl) c.loop-n.invariant w.in_ok-push.ensures.ok
      | else-is_set w ↦ w.events-is
          ∙ left_out known_event (knows_event chart c.args.unit.0) chart.events c.loop-n.n c.event-item.result c.loop-n.events within there (sym known ∙ w.if-is_set.false) c.loop-n.invariant
    ]

pub returns : goal.returns
returns c =
    let all : length c.args.chart.now.events ≡ c.loop-n.n = search rules in
    all_kept known_event (knows_event c.args.chart.now c.args.unit.0) c.args.chart.now.events c.loop-n.n c.loop-n.events all c.loop-n.invariant

pub overflow_cast-n : goal.overflow_cast-n
overflow_cast-n c =
    let within : c.loop-n.n < length c.args.chart.now.events = search rules in
    omega (arith, few_events c.args.chart.now c.requires.accepted)
