use Rattle.std.proofs.Common.{◌≡◌, ◌==◌, ◌∙◌, ℕ, Bool, map, filter, ap, sym, arith}
use Rattle.std.specs.List.{list_any, range_with_len}
use Rattle.wf_model.specs.Ids.{event_id}
use Rattle.wf_model.specs.declared.ids.EventId.{EventId}
use Rattle.wf_flat.proofs.Loops.{number_kept, number_left, none_ascending}
use Rattle.wf_flat.proofs.gathered.ascending_events.Goals as goal
use Rattle.wf_flat.proofs.gathered.ascending_events.Goals.{then-has+in_ok-push, else-has}

pub loop-e-preserved : goal.loop-e-preserved
loop-e-preserved c =
    let p = λ (e : ℕ). list_any (λ (r : EventId). r.0 == e) c.args.raised.now in
    let e = c.loop-e.e in
    let told = ap (λ (f : ℕ → Bool). f e) (sym c.in_ok-set.ensures) in
    elim c.if-has.branch [
      | then-has+in_ok-push w ↦ w.events-is ∙ number_kept event_id p e c.loop-e.events w.push.new.self (told ∙ sym w.if-has.ensures) c.loop-e.invariant w.in_ok-push.ensures.ok
      | else-has w ↦ w.events-is ∙ number_left event_id p e c.loop-e.events (told ∙ sym w.if-has.ensures) c.loop-e.invariant
    ]

pub returns-then-is_empty : goal.returns-then-is_empty
returns-then-is_empty c = c.new.ensures ∙ none_ascending c.args.raised.now (sym c.is_empty.ensures ∙ c.if-is_empty.true)

pub returns : goal.returns
returns c =
    let whole : c.loop-e.e ≡ 128 = omega (arith, c.loop-e-test.false, c.loop-e.auto.e-end) in
    c.loop-e.invariant ∙ ap (λ (n : ℕ). map event_id (filter (λ e. list_any (λ (r : EventId). r.0 == e) c.args.raised.now) (range_with_len 0 n))) whole
