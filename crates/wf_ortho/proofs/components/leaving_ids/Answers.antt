use Rattle.std.proofs.Common.{arith, sym, ◌∙◌}
use Rattle.wf_semantics.proofs.Facts.{chart_of}
use Rattle.wf_parts.specs.Components.{leaves}
use Rattle.wf_ortho.proofs.Chosen.{chosen_more, chosen_same}
use Rattle.wf_ortho.proofs.components.leaving_ids.Goals as goal
use Rattle.wf_ortho.proofs.components.leaving_ids.Goals.{then-leaves+in_ok-push, else-leaves}

pub overflow_cast-id : goal.overflow_cast-id
overflow_cast-id c = omega (arith, (chart_of c.args.chart.now c.requires.accepted).few_transitions)

pub loop-t-preserved : goal.loop-t-preserved
loop-t-preserved c =
    elim c.if-leaves.branch [
      | then-leaves+in_ok-push w ↦
          w.ids-is ∙ w.in_ok-push.ensures.ok ∙ chosen_more (λ t. leaves c.args.chart.now t c.args.z.0) c.loop-t.t c.loop-t.ids c.loop-t.invariant (sym c.leaves.ensures ∙ w.if-leaves.true)
      | else-leaves w ↦ w.ids-is ∙ chosen_same (λ t. leaves c.args.chart.now t c.args.z.0) c.loop-t.t c.loop-t.ids c.loop-t.invariant (sym c.leaves.ensures ∙ w.if-leaves.false)
    ]
