use Rattle.std.proofs.Common.{◌<◌, ◌∙◌, ap, sym, arith, length, [], ◌∷◌, ◌++◌, append-nil}
use Rattle.wf_model.specs.declared.chart.Chart.{Chart}
use Rattle.wf_semantics.specs.Configuration.{is_in}
use Rattle.wf_semantics.proofs.Facts.{chart_of}
use Rattle.wf_scopes.proofs.Lines.{filter_more_by}
use Rattle.wf_central.specs.Kept.{central_of}
use Rattle.wf_audit.proofs.central.states_in.Goals as goal
use Rattle.wf_audit.proofs.central.states_in.Goals.{then-is_in+in_ok-push, else-is_in}
use Rattle.wf_model.specs.Ids.{state_id}

pub overflow_cast-id : goal.overflow_cast-id
overflow_cast-id c = omega (arith, (chart_of c.args.checked.now c.chart.ensures.accepted).few_states, ap (λ (chart : Chart). length chart.states) c.chart.ensures.same)

pub loop-s-preserved : goal.loop-s-preserved
loop-s-preserved c =
    let within : c.loop-s.s < length c.args.checked.now.states = omega (arith, c.loop-s-test.true, c.len-s-end.ensures, ap (λ (chart : Chart). length chart.states) c.chart.ensures.same) in
    let told = c.is_in.ensures c.args.checked.now c.requires within in
    let more = filter_more_by state_id (λ s. is_in s (central_of c.args.checked.now c.args.central.now).configuration) c.loop-s.s in
    elim c.if-is_in.branch [
      | then-is_in+in_ok-push w ↦ rw more (rw (sym told ∙ w.if-is_in.true) (w.states-is ∙ w.in_ok-push.ensures.ok ∙ ap (λ l. l ++ state_id c.loop-s.s ∷ []) c.loop-s.invariant))
      | else-is_in w ↦ rw more (rw (sym told ∙ w.if-is_in.false) (rw append-nil (w.states-is ∙ c.loop-s.invariant)))
    ]
