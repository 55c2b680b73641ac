-- A server that takes in an update holds it, and of all else what it held.
use Rattle.std.proofs.Common.{◌≡◌, ℕ, ◌+◌, ◌<◌, ◌≤◌, cond, Bool, true, false, true≢false, List, length, Option, Some, None, refl, sym, ap, ◌∙◌, subst, arith, eqb-true, eq-eqb}
use Rattle.std.proofs.lemmas.List.{get_or-set_same, get_or-set_other, length-set}
use Rattle.std.specs.Prelude.{◌==◌, IsSome, slice_set}
use Rattle.wf_model.specs.declared.update.Update.{Update}
use Rattle.wf_parts.specs.declared.data.PartData.{PartData}
use Rattle.wf_histories.specs.Histories.{taken}
use Rattle.wf_server.specs.Servers.{Server, held_in, held}
use Rattle.wf_server.specs.Inbox.{IsPeer, AllCame, IsUpdateOf, IsInbox}
use Rattle.wf_server.specs.Receiving.{Holding}

-- what is held, by the tests on the step
abbrev held_by : Bool → Bool → List (Option Update) → List (Option Update) → ℕ → Option Update
held_by next behind came early v = cond next (held_in came v) (cond behind (held_in early v) None)

-- a slot more
abbrev filled : List (Option Update) → Update → List (Option Update)
filled slots update = slice_set slots update.from.0 (Some update)

filled_here : (slots : List (Option Update)) (update : Update) → update.from.0 < length slots → held_in (filled slots update) update.from.0 ≡ Some update
filled_here slots update within = get_or-set_same slots update.from.0 (Some update) None within

filled_else : (slots : List (Option Update)) (update : Update) (v : ℕ) → (v ≡ update.from.0 → ⊥) → held_in (filled slots update) v ≡ held_in slots v
filled_else slots update v unlike = get_or-set_other slots update.from.0 v (Some update) None unlike

module _ {D : Type 0} (server : Server D) (update : Update) where
  -- of the next step
  pub came_holds : update.from.0 < length server.came → update.step ≡ taken server.past + 1 → Holding server (record server { came = filled server.came update }) update
  came_holds within is = record {
    this =
        ap (λ (b : Bool). held_by b (update.step == taken server.past + 2) (filled server.came update) server.early update.from.0) (eq-eqb update.step (taken server.past + 1) is)
        ∙ filled_here server.came update within;
    units = λ v step unlike. units (step == taken server.past + 1) (step == taken server.past + 2) v unlike;
    steps = λ v step unlike. steps v step unlike (step == taken server.past + 1) refl (step == taken server.past + 2);
    rest = refl;
  }
    where
      units : (b behind : Bool) (v : ℕ) → (v ≡ update.from.0 → ⊥) → held_by b behind (filled server.came update) server.early v ≡ held_by b behind server.came server.early v
      units true behind v unlike = filled_else server.came update v unlike
      units false behind v unlike = refl

      steps : (v step : ℕ) → (step ≡ update.step → ⊥) → (b : Bool) → (step == taken server.past + 1) ≡ b → (behind : Bool) → held_by b behind (filled server.came update) server.early v ≡ held_by b behind server.came server.early v
      steps v step unlike true e behind = absurd (unlike (eqb-true step (taken server.past + 1) e ∙ sym is))
      steps v step unlike false e behind = refl

  -- of the step behind it
  pub early_holds : update.from.0 < length server.early → update.step ≡ taken server.past + 2 → Holding server (record server { early = filled server.early update }) update
  early_holds within is = record {
    this =
        ap (λ (b : Bool). held_by b (update.step == taken server.past + 2) server.came (filled server.early update) update.from.0) (not_next (update.step == taken server.past + 1) refl)
        ∙ ap (λ (b : Bool). held_by false b server.came (filled server.early update) update.from.0) (eq-eqb update.step (taken server.past + 2) is)
        ∙ filled_here server.early update within;
    units = λ v step unlike. units (step == taken server.past + 1) (step == taken server.past + 2) v unlike;
    steps = λ v step unlike. steps v step unlike (step == taken server.past + 1) (step == taken server.past + 2) refl;
    rest = refl;
  }
    where
      not_next : (b : Bool) → (update.step == taken server.past + 1) ≡ b → (update.step == taken server.past + 1) ≡ false
      not_next true e = let q : update.step ≡ taken server.past + 1 = eqb-true update.step (taken server.past + 1) e in absurd (omega (arith, q, is))
      not_next false e = e

      units : (b behind : Bool) (v : ℕ) → (v ≡ update.from.0 → ⊥) → held_by b behind server.came (filled server.early update) v ≡ held_by b behind server.came server.early v
      units true behind v unlike = refl
      units false true v unlike = filled_else server.early update v unlike
      units false false v unlike = refl

      steps : (v step : ℕ) → (step ≡ update.step → ⊥) → (b behind : Bool) → (step == taken server.past + 2) ≡ behind → held_by b behind server.came (filled server.early update) v ≡ held_by b behind server.came server.early v
      steps v step unlike true behind e = refl
      steps v step unlike false true e = absurd (unlike (eqb-true step (taken server.past + 2) e ∙ sym is))
      steps v step unlike false false e = refl

-- it is the sender's of this step
pub inbox_filled : (part : PartData) (step : ℕ) (slots : List (Option Update)) (update : Update) → IsInbox part step slots → IsUpdateOf part update.from.0 step update → update.from.0 < length slots → IsInbox part step (filled slots update)
inbox_filled part step slots update inbox fits within = record {
  size = length-set slots update.from.0 (Some update) ∙ inbox.size;
  each = λ v other there. each v other there (v == update.from.0) refl;
}
  where
    some_is : {x y : Update} → ◌≡◌ {A = Option Update} (Some x) (Some y) → x ≡ y
    some_is e = cc e

    each : (v : ℕ) (other : Update) → held_in (filled slots update) v ≡ Some other → (b : Bool) → (v == update.from.0) ≡ b → IsUpdateOf part v step other
    each v other there true e =
        let at : v ≡ update.from.0 = eqb-true v update.from.0 e in
        let same : update ≡ other = some_is (sym (filled_here slots update within) ∙ ap (held_in (filled slots update)) (sym at) ∙ there) in
        subst (λ w. IsUpdateOf part w step other) (sym at) (subst (λ (x : Update). IsUpdateOf part update.from.0 step x) same fits)
    each v other there false e = inbox.each v other (sym (filled_else slots update v (λ at. true≢false (sym (eq-eqb v update.from.0 at) ∙ e))) ∙ there)

-- where none is held of a peer, not all came
pub not_all : (part : PartData) (came : List (Option Update)) (v : ℕ) → IsPeer part v → held_in came v ≡ None → AllCame part came → ⊥
not_all part came v peer none all = go (held_in came v) none (all v peer)
  where
    go : (o : Option Update) → o ≡ None → IsSome o → ⊥
    go None e some = true≢false (sym some)
    go (Some x) e some = cc e
