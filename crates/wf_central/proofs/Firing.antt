-- What fires at a state, and where the states go.
use Rattle.std.proofs.Common.{◌≡◌, ℕ, ◌<◌, ◌≤◌, ◌==◌, ◌||◌, ◌&&◌, not, cond, Bool, true, false, List, [], ◌∷◌, length, Option, Some, None, is_some, filter, inl, inr, refl, sym, ◌∙◌, ap, ap₂, subst, arith, eqb-true, eq-eqb, true≢false}
use Rattle.std.specs.List.{list_any}
use Rattle.wf_model.specs.declared.chart.Chart.{Chart}
use Rattle.wf_model.specs.Tree.{scope, is_above, ancestors, all_transitions}
use Rattle.wf_semantics.specs.Configuration.{Tree, is_in, IsConfiguration}
use Rattle.wf_semantics.specs.Entry.{entry_tree}
use Rattle.wf_semantics.specs.Walk.{new_tree, fired_of, first_of_scope}
use Rattle.wf_semantics.specs.Flat.{fires, HaveActiveSources}
use Rattle.wf_model.proofs.Bools.{Mem, any_mem, mem_any, not_true, bool_iff}
use Rattle.wf_semantics.proofs.Lists.{among_mem, mem_among, mem_filter, filter_agree}
use Rattle.wf_semantics.proofs.Facts.{IsChart}
use Rattle.wf_semantics.proofs.Towards.{entry_below}
use Rattle.wf_semantics.proofs.Steps.{setting, fires_rule, rule_fires, transition_mem, mem_transition, same_fired, same_bits, fired_fire, fired_apart}

-- what is chosen at s, where nothing is chosen above it
abbrev pub firing_at : Chart → (ℕ → Bool) → ℕ → Option ℕ
firing_at chart enabled s =
    cond (list_any (λ a. is_some (first_of_scope chart enabled a)) (ancestors chart s)) None (first_of_scope chart enabled s)

abbrev pub or_other : Option ℕ → Option ℕ → Option ℕ
or_other None o = o
or_other (Some x) o = Some x

-- the first that f gives of these
abbrev pub first_by : (ℕ → Option ℕ) → List ℕ → Option ℕ
first_by f [] = None
first_by f (x ∷ xs) = or_other (f x) (first_by f xs)

abbrev pub is_this : ℕ → Option ℕ → Bool
is_this t None = false
is_this t (Some u) = u == t

-- what a transition that leaves z makes of it
abbrev pub bit_after : Chart → ℕ → Bool → Option ℕ → Bool
bit_after chart z was None = was
bit_after chart z was (Some t) = is_in z (entry_tree chart t)

first_found : (f : ℕ → Option ℕ) (xs : List ℕ) (t : ℕ) → first_by f xs ≡ Some t → (a : ℕ) × Mem a xs × (f a ≡ Some t)
first_found f [] t e = absurd (none_some e)
  where
    none_some : None ≡ Some t → ⊥
    none_some q = cc
first_found f (x ∷ xs) t e = go (f x) refl e (first_found f xs t)
  where
    go : (o : Option ℕ) → f x ≡ o → or_other o (first_by f xs) ≡ Some t → (first_by f xs ≡ Some t → (a : ℕ) × Mem a xs × (f a ≡ Some t)) → (a : ℕ) × Mem a (x ∷ xs) × (f a ≡ Some t)
    go None q k ih = let w = ih k in (w.0, inr w.1, w.2)
    go (Some u) q k ih = (x, inl refl, q ∙ k)

first_none_of : (f : ℕ → Option ℕ) (xs : List ℕ) → first_by f xs ≡ None → (a t : ℕ) → Mem a xs → f a ≡ Some t → ⊥
first_none_of f [] e a t m q = m
first_none_of f (x ∷ xs) e a t m q = go (f x) refl e (λ k n. first_none_of f xs k a t n q)
  where
    go : (o : Option ℕ) → f x ≡ o → or_other o (first_by f xs) ≡ None → (first_by f xs ≡ None → Mem a xs → ⊥) → ⊥
    go None p k ih = elim m [ inl h ↦ absurd (differ (sym p ∙ ap f h ∙ q)) | inr n ↦ ih k n ]
      where
        differ : None ≡ Some t → ⊥
        differ r = cc
    go (Some u) p k ih = absurd (differ k)
      where
        differ : Some u ≡ None → ⊥
        differ r = cc

some_of : (o : Option ℕ) → is_some o ≡ true → (t : ℕ) × (o ≡ Some t)
some_of None h = absurd (true≢false (sym h))
some_of (Some t) h = (t, refl)

module _ (chart : Chart) (ok : IsChart chart) (enabled : ℕ → Bool) where
  abbrev first : ℕ → Option ℕ
  first s = first_of_scope chart enabled s

  abbrev held : ℕ → Bool
  held s = list_any (λ a. is_some (first a)) (ancestors chart s)

  -- what fires at s fires by the rule, and s is its scope
  pub firing_fires : (s t : ℕ) → firing_at chart enabled s ≡ Some t → (t < length chart.transitions) × (scope chart t ≡ s) × (fires chart enabled t ≡ true)
  firing_fires s t e = go (held s) refl e
    where
      go : (b : Bool) → held s ≡ b → cond b None (first s) ≡ Some t → (t < length chart.transitions) × (scope chart t ≡ s) × (fires chart enabled t ≡ true)
      go true h q = absurd (differ q)
        where
          differ : None ≡ Some t → ⊥
          differ r = cc
      go false h q =
          let set = setting chart ok enabled in
          let w = set.first_some s t q in (
            w.0.0,
            w.1,
            rule_fires chart ok enabled t (
              w.0,
              (
                (λ b eb above. by_first b eb (subst (λ (x : ℕ). is_above chart (scope chart b) x ≡ true) w.1 above) (first (scope chart b)) refl),
                (λ b eb same. w.2 b eb (same ∙ w.1)),
              ),
            ),
          )
        where
          by_first : (b : ℕ) → (b < length chart.transitions) × (enabled b ≡ true) → is_above chart (scope chart b) s ≡ true → (o : Option ℕ) → first (scope chart b) ≡ o → ⊥
          by_first b eb above None f = (setting chart ok enabled).first_none (scope chart b) f b eb refl
          by_first b eb above (Some u) f =
              true≢false (sym (mem_any (λ a. is_some (first a)) (scope chart b) (ancestors chart s) (among_mem (ancestors chart s) (scope chart b) above) (ap is_some f)) ∙ h)

  -- what fires by the rule fires at its scope
  pub fires_firing : (t : ℕ) → t < length chart.transitions → fires chart enabled t ≡ true → firing_at chart enabled (scope chart t) ≡ Some t
  fires_firing t lt h =
      let r = fires_rule chart ok enabled t lt h in
      let free : held (scope chart t) ≡ false = not_true (held (scope chart t)) (λ k.
      let w = any_mem (λ a. is_some (first a)) (ancestors chart (scope chart t)) k in
      let u = some_of (first w.0) w.2 in
      let f = (setting chart ok enabled).first_some w.0 u.0 u.1 in
      r.1.0 u.0 f.0 (subst (λ (x : ℕ). is_above chart x (scope chart t) ≡ true) (sym f.1) (mem_among (ancestors chart (scope chart t)) w.0 w.1))) in
      ap (λ (b : Bool). cond b None (first (scope chart t))) free ∙ go (first (scope chart t)) refl r.0 r.1.1
    where
      go : (o : Option ℕ) → first (scope chart t) ≡ o → (t < length chart.transitions) × (enabled t ≡ true)
          → ((b : ℕ) → (b < length chart.transitions) × (enabled b ≡ true) → scope chart b ≡ scope chart t → t ≤ b) → first (scope chart t) ≡ Some t
      go None e et least = absurd ((setting chart ok enabled).first_none (scope chart t) e t et refl)
      go (Some u) e et least =
          let f = (setting chart ok enabled).first_some (scope chart t) u e in
          let le : t ≤ u = least u f.0 f.1 in
          let ge : u ≤ t = f.2 t et refl in
          let same : u ≡ t = omega arith in
          e ∙ ap Some same

  -- t is what fires at its scope exactly where it fires by the rule
  pub fired_here : (t : ℕ) → t < length chart.transitions → is_this t (firing_at chart enabled (scope chart t)) ≡ fires chart enabled t
  fired_here t lt = bool_iff (is_this t (firing_at chart enabled (scope chart t))) (fires chart enabled t)
      (λ h. back (firing_at chart enabled (scope chart t)) refl h)
      (λ h. ap (is_this t) (fires_firing t lt h) ∙ eq-eqb t t refl)
    where
      back : (o : Option ℕ) → firing_at chart enabled (scope chart t) ≡ o → is_this t o ≡ true → fires chart enabled t ≡ true
      back None e h = absurd (true≢false (sym h))
      back (Some u) e h = subst (λ (x : ℕ). fires chart enabled x ≡ true) (eqb-true u t h) (firing_fires (scope chart t) u e).2

  -- the transitions that fire at their scopes are those that the walk fires
  pub fired_list : (c : Tree) → IsConfiguration chart c → HaveActiveSources chart enabled c →
      filter (λ t. is_this t (firing_at chart enabled (scope chart t))) (all_transitions chart) ≡ fired_of chart enabled c
  fired_list c conf active =
      filter_agree (λ t. is_this t (firing_at chart enabled (scope chart t))) (fires chart enabled) (all_transitions chart) (λ t m. fired_here t (transition_mem chart t m))
      ∙ sym (same_fired chart ok enabled c conf active)

  -- where a state goes, by what fires at the first of its ancestors at which something does
  pub bit_moves : (c : Tree) → IsConfiguration chart c → HaveActiveSources chart enabled c → (z : ℕ) →
      bit_after chart z (is_in z c) (first_by (firing_at chart enabled) (ancestors chart z)) ≡ is_in z (new_tree chart enabled c)
  bit_moves c conf active z = go (first_by (firing_at chart enabled) (ancestors chart z)) refl ∙ sym (same_bits chart ok enabled c conf z)
    where
      F : List ℕ
      F = fired_of chart enabled c

      enters : ℕ → Bool
      enters t = is_in z (entry_tree chart t)

      leaves : ℕ → Bool
      leaves t = is_above chart (scope chart t) z

      in_fired : (t : ℕ) → t < length chart.transitions → fires chart enabled t ≡ true → Mem t F
      in_fired t lt h = subst (λ (l : List ℕ). Mem t l) (sym (same_fired chart ok enabled c conf active)) (mem_filter (fires chart enabled) (all_transitions chart) t (mem_transition chart t lt) h)

      absorbed : (x b o : Bool) → o ≡ true → x ≡ (x || (b && not o))
      absorbed true b o e = refl
      absorbed false true o e = sym (ap not e)
      absorbed false false o e = refl

      stays : (x b o : Bool) → x ≡ false → o ≡ false → b ≡ (x || (b && not o))
      stays x true o e f = ap₂ (λ (p q : Bool). p || not q) (sym e) (sym f)
      stays x false o e f = ap (λ (p : Bool). p || false) (sym e)

      go : (o : Option ℕ) → first_by (firing_at chart enabled) (ancestors chart z) ≡ o → bit_after chart z (is_in z c) o ≡ (list_any enters F || (is_in z c && not (list_any leaves F)))
      go None e =
          let left : list_any leaves F ≡ false = not_true (list_any leaves F) (λ h.
          let w = any_mem leaves F h in
          let f = fired_fire chart ok enabled c conf w.0 w.1 in
          first_none_of (firing_at chart enabled) (ancestors chart z) e (scope chart w.0) w.0 (among_mem (ancestors chart z) (scope chart w.0) w.2) (fires_firing w.0 f.0 f.1)) in
          let entered : list_any enters F ≡ false = not_true (list_any enters F) (λ h.
          let w = any_mem enters F h in
          let f = fired_fire chart ok enabled c conf w.0 w.1 in
          true≢false (sym (mem_any leaves w.0 F w.1 (entry_below chart ok w.0 z f.0 w.2)) ∙ left)) in
          stays (list_any enters F) (is_in z c) (list_any leaves F) entered left
      go (Some t) e =
          let w = first_found (firing_at chart enabled) (ancestors chart z) t e in
          let f = firing_fires w.0 t w.2 in
          let above : leaves t ≡ true = subst (λ (x : ℕ). is_above chart x z ≡ true) (sym f.1) (mem_among (ancestors chart z) w.0 w.1) in
          let m = in_fired t f.0 f.2 in
          let left : list_any leaves F ≡ true = mem_any leaves t F m above in
          let entered : enters t ≡ list_any enters F = bool_iff (enters t) (list_any enters F)
          (λ h. mem_any enters t F m h)
          (λ h. let u = any_mem enters F h in
          let g = fired_fire chart ok enabled c conf u.0 u.1 in
          let same : u.0 ≡ t = fired_apart chart ok enabled c conf u.0 t z u.1 m (entry_below chart ok u.0 z g.0 u.2) above in
          subst (λ (x : ℕ). enters x ≡ true) same u.2) in
          entered ∙ absorbed (list_any enters F) (is_in z c) (list_any leaves F) left
