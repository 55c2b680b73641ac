use Rattle.std.proofs.Common.{arith, sym, ◌∙◌}
use Rattle.wf_semantics.proofs.Facts.{chart_of}
use Rattle.wf_semantics.specs.Flat.{blocks}
use Rattle.wf_ortho.proofs.Chosen.{chosen_more, chosen_same}
use Rattle.wf_ortho.proofs.components.blockers.Goals as goal
use Rattle.wf_ortho.proofs.components.blockers.Goals.{then-blocks+in_ok-push, else-blocks}

pub overflow_cast-id : goal.overflow_cast-id
overflow_cast-id c = omega (arith, (chart_of c.args.chart.now c.requires.accepted).few_transitions)

pub loop-b-preserved : goal.loop-b-preserved
loop-b-preserved c =
    elim c.if-blocks.branch [
      | then-blocks+in_ok-push w ↦
          w.ids-is ∙ w.in_ok-push.ensures.ok ∙ chosen_more (λ b. blocks c.args.chart.now b c.args.t.0) c.loop-b.b c.loop-b.ids c.loop-b.invariant (sym c.blocks-in-loop-b.ensures ∙ w.if-blocks.true)
      | else-blocks w ↦ w.ids-is ∙ chosen_same (λ b. blocks c.args.chart.now b c.args.t.0) c.loop-b.b c.loop-b.ids c.loop-b.invariant (sym c.blocks-in-loop-b.ensures ∙ w.if-blocks.false)
    ]
