-- Where numbers are good, a state stands directly before its first child.
use Rattle.std.proofs.Common.{◌≡◌, ℕ, zero, suc, ◌+◌, ◌-◌, ◌<◌, ◌≤◌, ◌==◌, ◌||◌, Bool, true, false, List, [], ◌∷◌, length, Option, Some, None, slice_get, inl, inr, refl, sym, ap, ◌∙◌, subst, arith, eqb-true, eq-eqb, true≢false}
use Rattle.std.specs.List.{list_any, list_all, enumerate_from}
use Rattle.std.specs.Option.{option_map, option_and_then}
use Rattle.std.proofs.lemmas.Bool.{and_parts, or_left}
use Rattle.std.proofs.lemmas.Option.{slice_get_past}
use Rattle.wf_model.specs.declared.chart.Chart.{Chart}
use Rattle.wf_model.specs.declared.chart.State.{State}
use Rattle.wf_model.specs.Tree.{parent, parent_of, is_child_of, is_among, is_above, ancestors_by}
use Rattle.wf_model.specs.Accepted.{all_numbered, follows, is_unit, is_placed_state, has_child}
use Rattle.wf_check.specs.Numbered.{bad_state}
use Rattle.wf_model.proofs.Items.{numbered_at}
use Rattle.wf_check.proofs.Parts.{or_cases, or_right, numbered_pass}

-- an item that passes, with its place
any_at : {A : Type 0} → (test : A → Bool) (xs : List A) → list_any test xs ≡ true → (i : ℕ) × (x : A) × (slice_get xs i ≡ Some x) × (test x ≡ true)
any_at test [] h = absurd (true≢false (sym h))
any_at test (x ∷ xs) h = elim (or_cases (test x) (list_any test xs) h) [
  | inl a ↦ (0, x, refl, a)
  | inr b ↦ let w = any_at test xs b in (suc w.0, w.1, w.2, w.3)
]

at_any : {A : Type 0} → (test : A → Bool) (xs : List A) (i : ℕ) (x : A) → slice_get xs i ≡ Some x → test x ≡ true → list_any test xs ≡ true
at_any test [] i x e h = cc
at_any test (y ∷ xs) zero x e h = let same : y ≡ x = cc in or_left (test y) (list_any test xs) (ap test same ∙ h)
at_any test (y ∷ xs) (suc i) x e h = or_right (test y) (list_any test xs) (at_any test xs i x e h)

child_of : (s : ℕ) (o : Option ℕ) → is_child_of s o ≡ true → o ≡ Some s
child_of s None h = absurd (true≢false (sym h))
child_of s (Some p) h = ap Some (eqb-true p s h)

of_child : (s : ℕ) (o : Option ℕ) → o ≡ Some s → is_child_of s o ≡ true
of_child s o e = ap (is_child_of s) e ∙ eq-eqb s s refl

-- a step up from s
by_up : {A : Type 0} (up : ℕ → Option ℕ) (s : ℕ) → (up s ≡ None → A) → ((p : ℕ) → up s ≡ Some p → A) → A
by_up {A} up s f g = go (up s) refl
  where
    go : (o : Option ℕ) → up s ≡ o → A
    go None e = f e
    go (Some p) e = g p e

-- the parent of each state but the first is the state before it, or an ancestor of that
abbrev pub Climbs : (ℕ → Option ℕ) → Type 0
Climbs up = (s p : ℕ) → up s ≡ Some p → (0 < s) × (((p == s - 1) || is_among (ancestors_by up (s - 1) (s - 1)) p) ≡ true)

module _ (up : ℕ → Option ℕ) (climbs : Climbs up) where
  -- up to n, each parent has a smaller number
  abbrev Falls : ℕ → Type 0
  Falls n = (s p : ℕ) → s ≤ n → up s ≡ Some p → p < s

  low : (n : ℕ) → Falls n → (fuel s a : ℕ) → s ≤ n → is_among (ancestors_by up fuel s) a ≡ true → a < s
  unfolding ancestors_by
  low n falls zero s a le h = absurd (true≢false (sym h))
  low n falls (suc fuel) s a le h = by_up up s
      (λ e. absurd (true≢false (sym (rw e at h))))
      (λ p e. let lt : p < s = falls s p le e in
      elim (or_cases (p == a) (is_among (ancestors_by up fuel p) a) (rw e at h)) [
        | inl q ↦ let w = eqb-true p a q in omega arith
        | inr r ↦ let k : a < p = low n falls fuel p a (omega arith) r in omega arith
      ])

  falls : (n : ℕ) → Falls n
  falls zero s p le e = absurd (omega (arith, (climbs s p e).0))
  falls (suc n) s p le e = elim (or_cases (p == s - 1) (is_among (ancestors_by up (s - 1) (s - 1)) p) (climbs s p e).1) [
    | inl q ↦ let w = eqb-true p (s - 1) q in omega (arith, (climbs s p e).0)
    | inr r ↦ let k : p < s - 1 = low n (falls n) (s - 1) (s - 1) p (omega arith) r in omega arith
  ]

  -- a state with a state below it stands directly before a child
  pub leads : (n fuel k s : ℕ) → k ≤ n → is_among (ancestors_by up fuel k) s ≡ true → up (s + 1) ≡ Some s
  unfolding ancestors_by
  leads n zero k s le h = absurd (true≢false (sym h))
  leads zero (suc fuel) k s le h = by_up up k
      (λ e. absurd (true≢false (sym (rw e at h))))
      (λ p e. absurd (omega (arith, (climbs k p e).0)))
  leads (suc n) (suc fuel) k s le h = by_up up k
      (λ e. absurd (true≢false (sym (rw e at h))))
      (λ p e. let lt : p < k = falls k k p (omega arith) e in
      elim (or_cases (p == s) (is_among (ancestors_by up fuel p) s) (rw e at h)) [
        | inl q ↦ let same : p ≡ s = eqb-true p s q in
            let to_s : up k ≡ Some s = e ∙ ap Some same in
            elim (or_cases (p == k - 1) (is_among (ancestors_by up (k - 1) (k - 1)) p) (climbs k p e).1) [
              | inl w ↦ let before : p ≡ k - 1 = eqb-true p (k - 1) w in
                  let at : k ≡ s + 1 = omega arith in
                  subst (λ (x : ℕ). up x ≡ Some s) at to_s
              | inr w ↦ leads n (k - 1) (k - 1) s (omega arith) (subst (λ (x : ℕ). is_among (ancestors_by up (k - 1) (k - 1)) x ≡ true) same w)
            ]
        | inr r ↦ leads n fuel p s (omega arith) r
      ])

  pub child_leads : (k s : ℕ) → up k ≡ Some s → up (s + 1) ≡ Some s
  unfolding ancestors_by
  child_leads k s e = leads k 1 k s (omega arith) (rw e (or_left (s == s) false (eq-eqb s s refl)))

pub climbs_of : (c : Chart) → all_numbered (is_placed_state c) c.states ≡ true → Climbs (parent c)
climbs_of c h s p e = go (slice_get c.states s) refl
  where
    follows_at : (o : Option ℕ) → o ≡ Some p → follows c s o ≡ true → (0 < s) × (((p == s - 1) || is_above c p (s - 1)) ≡ true)
    follows_at None e h = cc
    follows_at (Some q) e h =
        let same : q ≡ p = cc in
        let parts = and_parts (Rattle.std.specs.Prelude.nat_lt 0 s) ((q == s - 1) || is_above c q (s - 1)) h in
        (grind (arith, parts.0), subst (λ (x : ℕ). ((x == s - 1) || is_above c x (s - 1)) ≡ true) same parts.1)

    go : (o : Option State) → slice_get c.states s ≡ o → (0 < s) × (((p == s - 1) || is_above c p (s - 1)) ≡ true)
    go None at = absurd (none_some (sym (ap (option_and_then parent_of) at) ∙ e))
      where
        none_some : None ≡ Some p → ⊥
        none_some q = cc
    go (Some state) at =
        follows_at (parent_of state) (sym (ap (option_and_then parent_of) at) ∙ e)
        (and_parts (follows c s (parent_of state)) (is_unit c state.unit) (numbered_at (is_placed_state c) c.states h s state at)).0

same_bool : (a b : Bool) → (a ≡ true → b ≡ true) → (b ≡ true → a ≡ true) → a ≡ b
same_bool true b f g = sym (f refl)
same_bool false true f g = g refl
same_bool false false f g = refl

-- so a state has a child where the next state is one
pub has_child_next : (c : Chart) (s : ℕ) → bad_state c ≡ None → has_child c s ≡ is_child_of s (parent c (s + 1))
has_child_next c s good = same_bool (has_child c s) (is_child_of s (parent c (s + 1))) to from
  where
    to : has_child c s ≡ true → is_child_of s (parent c (s + 1)) ≡ true
    to h =
        let w = any_at (λ state. is_child_of s (parent_of state)) c.states h in
        let up : parent c w.0 ≡ Some s = ap (option_and_then parent_of) w.2 ∙ child_of s (parent_of w.1) w.3 in
        of_child s (parent c (s + 1)) (child_leads (parent c) (climbs_of c (numbered_pass (is_placed_state c) c.states good)) w.0 s up)

    from : is_child_of s (parent c (s + 1)) ≡ true → has_child c s ≡ true
    from h = go (slice_get c.states (s + 1)) refl
      where
        go : (o : Option State) → slice_get c.states (s + 1) ≡ o → has_child c s ≡ true
        go None at = absurd (true≢false (sym h ∙ ap (λ (o : Option State). is_child_of s (option_and_then parent_of o)) at))
        go (Some state) at = at_any (λ state. is_child_of s (parent_of state)) c.states (s + 1) state at (sym (ap (λ (o : Option State). is_child_of s (option_and_then parent_of o)) at) ∙ h)

past_of : {A : Type 0} → (xs : List A) (i : ℕ) → slice_get xs i ≡ None → length xs ≤ i
past_of [] i e = omega arith
past_of (x ∷ xs) zero e = cc
past_of (x ∷ xs) (suc i) e = let h : length xs ≤ i = past_of xs i e in omega arith

-- past the states there is no child
pub no_child_past : (c : Chart) (s : ℕ) → slice_get c.states s ≡ None → is_child_of s (parent c (s + 1)) ≡ false
no_child_past c s e =
    let past : length c.states ≤ s = past_of c.states s e in
    ap (λ (o : Option State). is_child_of s (option_and_then parent_of o)) (slice_get_past c.states (s + 1) (omega arith))
