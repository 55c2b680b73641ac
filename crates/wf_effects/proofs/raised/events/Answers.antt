use Rattle.std.proofs.Common.{ℕ, List, [], ◌∷◌, ◌++◌, false, ap, ◌∙◌, append-nil, slice_index_or}
use Rattle.wf_model.specs.declared.ids.EventId.{EventId}
use Rattle.wf_effects.proofs.Bits.{filter_more}
use Rattle.wf_effects.proofs.raised.events.Goals as goal
use Rattle.wf_effects.proofs.raised.events.Goals.{then-is_raised+in_ok-push, else-is_raised}

pub loop-e-preserved : goal.loop-e-preserved
loop-e-preserved c =
    let event : ℕ → EventId = λ e. record { 0 = e } in
    let more = filter_more event (λ e. slice_index_or c.args.bits.now e false) c.loop-e.e in
    elim c.if-is_raised.branch [
      | then-is_raised+in_ok-push w ↦ rw more (rw w.if-is_raised.true (w.events-is ∙ w.in_ok-push.ensures.ok ∙ ap (λ (es : List EventId). es ++ event c.loop-e.e ∷ []) c.loop-e.invariant))
      | else-is_raised w ↦ rw more (rw w.if-is_raised.false (rw append-nil (w.events-is ∙ c.loop-e.invariant)))
    ]
