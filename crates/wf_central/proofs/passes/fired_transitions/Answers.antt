use Rattle.std.proofs.Common.{◌∙◌, ap, sym, arith, [], ◌∷◌, ◌++◌, append-nil}
use Rattle.wf_semantics.proofs.Facts.{chart_of}
use Rattle.wf_scopes.proofs.Lines.{filter_more_by}
use Rattle.wf_central.specs.Passes.{fired_by}
use Rattle.wf_central.proofs.passes.fired_transitions.Goals as goal
use Rattle.wf_central.proofs.passes.fired_transitions.Goals.{then-is_fired+in_ok-push, else-is_fired}
use Rattle.wf_model.specs.Ids.{trans_id}

pub overflow_cast-id : goal.overflow_cast-id
overflow_cast-id c = omega (arith, (chart_of c.args.chart.now c.requires.accepted).few_transitions)

pub loop-t-preserved : goal.loop-t-preserved
loop-t-preserved c =
    let more = filter_more_by trans_id (fired_by c.args.chart.now c.args.firing.now) c.loop-t.t in
    elim c.if-is_fired.branch [
      | then-is_fired+in_ok-push w ↦ rw more (rw (sym c.is_fired.ensures ∙ w.if-is_fired.true) (w.ids-is ∙ w.in_ok-push.ensures.ok ∙ ap (λ l. l ++ trans_id c.loop-t.t ∷ []) c.loop-t.invariant))
      | else-is_fired w ↦ rw more (rw (sym c.is_fired.ensures ∙ w.if-is_fired.false) (rw append-nil (w.ids-is ∙ c.loop-t.invariant)))
    ]
