use Rattle.std.proofs.Common.{◌≡◌, ◌∙◌, ◌==◌, ◌||◌}
use Rattle.std.specs.List.{list_any}
use Rattle.std.proofs.lemmas.Result.{IfOk-weaker}
use Rattle.wf_model.specs.Bits.{bit}
use Rattle.wf_model.specs.declared.ids.EventId.{EventId}
use Rattle.wf_semantics.specs.Run.{is_happening}
use Rattle.wf_updates.proofs.Pairs.{there_told}
use Rattle.wf_updates.proofs.now.there_set.Goals as goal

pub returns : goal.returns
returns c =
    let raised = c.args.raised.now in
    let next = c.args.next.now in
    IfOk-weaker c.event_set.result (λ bits. bit bits ≡ (λ k. list_any (λ (event : EventId). event.0 == k) c.as_slice.result.now)) (λ bits. bit bits ≡ (λ e. list_any (λ r. r.0 == e) raised || list_any (λ x. is_happening e x.outer) next))
    (λ bits set. there_told raised c.as_slice.result.now next bits (c.as_slice.ensures ∙ c.in_ok-events.ensures) set) c.event_set.ensures
