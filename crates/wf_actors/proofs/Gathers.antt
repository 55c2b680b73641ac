-- What came of the peers of a unit, gathered in unit order.
use Rattle.std.proofs.Common.{◌≡◌, ◌≢◌, ℕ, suc, ◌+◌, ◌<◌, ◌==◌, not, cond, Bool, true, false, List, [], ◌∷◌, filter, length, Option, Some, None, option_map, refl, sym, ap, ap₂, ◌∙◌, subst, arith, eqb-true, eq-eqb, true≢false}
use Rattle.std.specs.Prelude.{IsSome, option_and_then}
use Rattle.std.specs.List.{cons_option, range_with_len}
use Rattle.wf_model.specs.declared.update.Update.{Update}
use Rattle.wf_parts.specs.declared.data.PartData.{PartData}
use Rattle.wf_histories.specs.Agreement.{peers}
use Rattle.wf_worlds.specs.Worlds.{gather}
use Rattle.wf_server.specs.Servers.{held_in, inputs_of}
use Rattle.wf_server.specs.Inbox.{IsPeer, AllCame, IsInbox}

abbrev with_first : Option Update → Option (List Update) → Option (List Update)
with_first first rest = option_and_then (λ update. option_map (λ updates. update ∷ updates) rest) first

-- what gives the same where the other gives something gathers the same
pub gather_more : (f g : ℕ → Option Update) (vs : List ℕ) (updates : List Update) → ((v : ℕ) (x : Update) → f v ≡ Some x → g v ≡ Some x) → gather f vs ≡ Some updates → gather g vs ≡ Some updates
gather_more f g [] updates same e = e
gather_more f g (v ∷ vs) updates same e = go (f v) (gather f vs) refl refl (λ us rest. gather_more f g vs us same rest) e
  where
    go : (o : Option Update) (r : Option (List Update)) → f v ≡ o → gather f vs ≡ r → ((us : List Update) → gather f vs ≡ Some us → gather g vs ≡ Some us) → with_first o r ≡ Some updates → with_first (g v) (gather g vs) ≡ Some updates
    go None r first rest more e = absurd (cc e)
    go (Some x) None first rest more e = absurd (cc e)
    go (Some x) (Some us) first rest more e = ap₂ with_first (same v x first) (more us rest) ∙ e

-- ALL CAME: they are the updates of the peers in order

-- a slot: the own one holds nothing, and another one its update
abbrev IsSlotOf : (ℕ → Option Update) → ℕ → ℕ → Option Update → Type 0
IsSlotOf f u v slot = (v ≡ u → slot ≡ None) × (v ≢ u → (update : Update) × (slot ≡ Some update) × (f v ≡ Some update))

module _ (f : ℕ → Option Update) (u : ℕ) where
  -- one slot more in front
  module _ (k : ℕ) (slot : Option Update) (slots : List (Option Update)) (rest : gather f (filter (λ v. not (v == u)) (range_with_len (k + 1) (length slots))) ≡ Some (inputs_of slots)) (here : IsSlotOf f u k slot) where
    abbrev more : List ℕ
    more = filter (λ v. not (v == u)) (range_with_len (k + 1) (length slots))

    other : (k == u) ≡ false → k ≢ u
    other e same = true≢false (sym (eq-eqb k u same) ∙ e)

    gather_next : (own : Bool) → (k == u) ≡ own → gather f (filter (λ v. not (v == u)) (k ∷ range_with_len (k + 1) (length slots))) ≡ Some (inputs_of (slot ∷ slots))
    gather_next true e =
        ap (λ (b : Bool). gather f (cond (not b) (k ∷ more) more)) e
        ∙ rest
        ∙ ap (λ (o : Option Update). Some (cons_option o (inputs_of slots))) (sym (here.0 (eqb-true k u e)))
    gather_next false e =
        let at = here.1 (other e) in
        ap (λ (b : Bool). gather f (cond (not b) (k ∷ more) more)) e
        ∙ ap₂ with_first at.2 rest
        ∙ ap (λ (o : Option Update). Some (cons_option o (inputs_of slots))) (sym at.1)

  gather_from : (k : ℕ) (slots : List (Option Update)) → ((v : ℕ) → v < length slots → IsSlotOf f u (k + v) (held_in slots v)) →
      gather f (filter (λ v. not (v == u)) (range_with_len k (length slots))) ≡ Some (inputs_of slots)
  gather_from k [] each = refl
  gather_from k (slot ∷ slots) each =
      let first : k + 0 ≡ k = omega arith in
      gather_next k slot slots
      (gather_from (k + 1) slots (λ v lt. let off : k + suc v ≡ (k + 1) + v = omega arith in subst (λ (w : ℕ). IsSlotOf f u w (held_in slots v)) off (each (suc v) (omega (arith, lt)))))
      (subst (λ (w : ℕ). IsSlotOf f u w slot) first (each 0 (omega arith)))
      (k == u) refl

some_of : (o : Option Update) → IsSome o → (update : Update) × (o ≡ Some update)
some_of None is = absurd (true≢false (sym is))
some_of (Some update) is = (update, refl)

module _ (part : PartData) (step : ℕ) (came : List (Option Update)) (inbox : IsInbox part step came) where
  own_none : (o : Option Update) → held_in came part.unit.0 ≡ o → o ≡ None
  own_none None is = refl
  own_none (Some update) is = absurd ((inbox.each part.unit.0 update is).peer.other refl)

  module _ (all : AllCame part came) (f : ℕ → Option Update) (same : (v : ℕ) → IsPeer part v → f v ≡ held_in came v) where
    slot_of : (v : ℕ) → v < length came → IsSlotOf f part.unit.0 v (held_in came v)
    slot_of v lt =
        let size = inbox.size in (
          λ own. ap (held_in came) own ∙ own_none (held_in came part.unit.0) refl,
          λ other.
              let peer : IsPeer part v = record { within = omega (arith, lt, size); other = other } in
              let it = some_of (held_in came v) (all v peer) in (it.0, it.1, same v peer ∙ it.1),
        )

    pub all_gathered : gather f (peers part.units part.unit.0) ≡ Some (inputs_of came)
    all_gathered =
        ap (λ (n : ℕ). gather f (filter (λ v. not (v == part.unit.0)) (range_with_len 0 n))) (sym inbox.size)
        ∙ gather_from f part.unit.0 0 came (λ v lt. let off : v ≡ 0 + v = omega arith in subst (λ (w : ℕ). IsSlotOf f part.unit.0 w (held_in came v)) off (slot_of v lt))
