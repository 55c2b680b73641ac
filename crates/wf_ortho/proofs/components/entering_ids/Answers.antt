use Rattle.std.proofs.Common.{arith, sym, ◌∙◌}
use Rattle.wf_semantics.proofs.Facts.{chart_of}
use Rattle.wf_parts.specs.Components.{enters}
use Rattle.wf_ortho.proofs.Chosen.{chosen_more, chosen_same}
use Rattle.wf_ortho.proofs.components.entering_ids.Goals as goal
use Rattle.wf_ortho.proofs.components.entering_ids.Goals.{then-enters+in_ok-push, else-enters}

pub overflow_cast-id : goal.overflow_cast-id
overflow_cast-id c = omega (arith, (chart_of c.args.chart.now c.requires.accepted).few_transitions)

pub loop-t-preserved : goal.loop-t-preserved
loop-t-preserved c =
    let is = c.enters.ensures c.args.chart.now c.requires.of (omega arith) c.requires.in_range in
    elim c.if-enters.branch [
      | then-enters+in_ok-push w ↦
          w.ids-is ∙ w.in_ok-push.ensures.ok ∙ chosen_more (λ t. enters c.args.chart.now t c.args.z.0) c.loop-t.t c.loop-t.ids c.loop-t.invariant (sym is ∙ w.if-enters.true)
      | else-enters w ↦ w.ids-is ∙ chosen_same (λ t. enters c.args.chart.now t c.args.z.0) c.loop-t.t c.loop-t.ids c.loop-t.invariant (sym is ∙ w.if-enters.false)
    ]
