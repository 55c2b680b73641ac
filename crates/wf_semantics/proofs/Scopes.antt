-- The scope of a transition is the lowest Or state above its source and its target.
use Rattle.std.proofs.Common.{◌≡◌, ℕ, zero, suc, ◌<◌, ◌≤◌, ◌==◌, ◌||◌, ◌&&◌, cond, Bool, true, false, length, Option, Some, None, find, unwrap_or, inl, inr, refl, sym, ap, ◌∙◌, arith, eqb-true, true≢false}
use Rattle.wf_model.specs.declared.chart.Chart.{Chart}
use Rattle.wf_model.specs.Tree.{kind, parent, is_or, is_above, is_among, ancestors, ancestors_by, scope, source, target}
use Rattle.wf_model.proofs.Bools.{or_cases, and_both, and_true}
use Rattle.wf_semantics.proofs.Lists.{among_mem, mem_among, find_some, find_none}
use Rattle.wf_semantics.proofs.Ancestors.{by_up, below_low}
use Rattle.wf_semantics.proofs.Facts.{IsChart}
use Rattle.wf_semantics.proofs.Charts.{falls, root_above}
use Rattle.wf_semantics.proofs.Places.{IsBelow, above_compare, above_low}

module _ (chart : Chart) (ok : IsChart chart) where
  pub scope_facts : (t : ℕ) → t < length chart.transitions → (is_or (kind chart (scope chart t)) ≡ true) × (is_above chart (scope chart t) (target chart t) ≡ true) × (is_above chart (scope chart t) (source chart t) ≡ true)
  scope_facts t lt = go (find q (ancestors chart (source chart t))) refl
    where
      q : ℕ → Bool
      q a = is_or (kind chart a) && is_above chart a (target chart t)

      go : (o : Option ℕ) → find q (ancestors chart (source chart t)) ≡ o →
          (is_or (kind chart (unwrap_or o 0)) ≡ true) × (is_above chart (unwrap_or o 0) (target chart t) ≡ true) × (is_above chart (unwrap_or o 0) (source chart t) ≡ true)
      go None e = absurd (find_none q (ancestors chart (source chart t)) e 0
          (among_mem (ancestors chart (source chart t)) 0 (root_above chart ok (source chart t) (ok.sources t lt).0 (ok.sources t lt).1))
          (and_true (is_or (kind chart 0)) (is_above chart 0 (target chart t)) (ap is_or ok.root_or) (root_above chart ok (target chart t) (ok.targets t lt).0 (ok.targets t lt).1)))
      go (Some a) e =
          let w = find_some q (ancestors chart (source chart t)) a e in
          let v = and_both (is_or (kind chart a)) (is_above chart a (target chart t)) w.1 in
          (v.0, v.1, mem_among (ancestors chart (source chart t)) a w.0)

  -- of the ancestors that pass, the first one has the greatest number
  first_highest : (q : ℕ → Bool) (most s a x : ℕ) → find q (ancestors_by (parent chart) most s) ≡ Some a → is_among (ancestors_by (parent chart) most s) x ≡ true → q x ≡ true → x ≤ a
  unfolding ancestors_by
  first_highest q zero s a x e m h = absurd (true≢false (sym m))
  first_highest q (suc most) s a x e m h = by_up (parent chart) s
      (λ n. absurd (true≢false (sym (rw n at m))))
      (λ p n. go p (q p) refl (rw n at e) (rw n at m) (λ e' m'. first_highest q most p a x e' m' h))
    where
      go : (p : ℕ) (b : Bool) → q p ≡ b → cond b (Some p) (find q (ancestors_by (parent chart) most p)) ≡ Some a → ((p == x) || is_among (ancestors_by (parent chart) most p) x) ≡ true →
          (find q (ancestors_by (parent chart) most p) ≡ Some a → is_among (ancestors_by (parent chart) most p) x ≡ true → x ≤ a) → x ≤ a
      go p true t e m ih =
          let same : p ≡ a = cc in
          elim (or_cases (p == x) (is_among (ancestors_by (parent chart) most p) x) m) [
            | inl w ↦ omega (arith, eqb-true p x w)
            | inr w ↦ omega (arith, below_low (parent chart) p (λ s p le e. falls chart ok s p e) most p x (omega arith) w)
          ]
      go p false t e m ih = elim (or_cases (p == x) (is_among (ancestors_by (parent chart) most p) x) m) [
        | inl w ↦ absurd (true≢false (sym h ∙ ap q (sym (eqb-true p x w)) ∙ t))
        | inr w ↦ ih e w
      ]

  -- every other Or state above both is above the scope
  pub scope_lowest : (t : ℕ) → t < length chart.transitions → (a : ℕ) → is_or (kind chart a) ≡ true → is_above chart a (source chart t) ≡ true → is_above chart a (target chart t) ≡ true → IsBelow chart a (scope chart t)
  scope_lowest t lt a o above_source above_target = go (find q (ancestors chart (source chart t))) refl
    where
      q : ℕ → Bool
      q a = is_or (kind chart a) && is_above chart a (target chart t)

      passes : q a ≡ true
      passes = and_true (is_or (kind chart a)) (is_above chart a (target chart t)) o above_target

      go : (o : Option ℕ) → find q (ancestors chart (source chart t)) ≡ o → IsBelow chart a (unwrap_or o 0)
      go None e = absurd (find_none q (ancestors chart (source chart t)) e a (among_mem (ancestors chart (source chart t)) a above_source) passes)
      go (Some x) e =
          let w = find_some q (ancestors chart (source chart t)) x e in
          let le = first_highest q (source chart t) (source chart t) x a e above_source passes in
          elim (above_compare chart ok a x (source chart t) above_source (mem_among (ancestors chart (source chart t)) x w.0)) [
            | inl same ↦ inl same
            | inr either ↦ elim either [
              | inl above ↦ inr above
              | inr below ↦ absurd (omega (arith, above_low chart ok x a below))
            ]
          ]
