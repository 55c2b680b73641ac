-- The ancestors of a state.
use Rattle.std.proofs.Common.{◌≡◌, ℕ, zero, suc, ◌<◌, ◌≤◌, ◌==◌, ◌||◌, ◌⊎◌, Bool, true, List, ◌∷◌, Option, Some, None, inl, inr, refl, sym, ap, ◌∙◌, subst, arith, eqb-true, true≢false}
use Rattle.wf_model.specs.Tree.{is_among, ancestors_by}
use Rattle.wf_model.proofs.Bools.{or_cases, or_right}
use Rattle.wf_semantics.proofs.Setting.{IsAncestry}

-- each parent has a smaller number, for states up to n
abbrev pub Falls : (ℕ → Option ℕ) → ℕ → Type 0
Falls up n = (s p : ℕ) → s ≤ n → up s ≡ Some p → p < s

-- a step up from s
pub by_up : {A : Type 0} (up : ℕ → Option ℕ) (s : ℕ) → (up s ≡ None → A) → ((p : ℕ) → up s ≡ Some p → A) → A
by_up {A} up s f g = go (up s) refl
  where
    go : (o : Option ℕ) → up s ≡ o → A
    go None e = f e
    go (Some p) e = g p e

pub below_low : (up : ℕ → Option ℕ) (n : ℕ) → Falls up n → (fuel s a : ℕ) → s ≤ n → is_among (ancestors_by up fuel s) a ≡ true → a < s
unfolding ancestors_by
below_low up n d zero s a le h = absurd (true≢false (sym h))
below_low up n d (suc fuel) s a le h = by_up up s
    (λ e. absurd (true≢false (sym (rw e at h))))
    (λ p e. let lt : p < s = d s p le e in
    elim (or_cases (p == a) (is_among (ancestors_by up fuel p) a) (rw e at h)) [
      | inl q ↦ let w = eqb-true p a q in omega arith
      | inr r ↦ let k : a < p = below_low up n d fuel p a (omega arith) r in omega arith
    ])

module _ (up : ℕ → Option ℕ) (d : (s p : ℕ) → up s ≡ Some p → p < s) where
  -- the ancestors are the same, whatever bounds their number
  pub enough : (f g s : ℕ) → s ≤ f → s ≤ g → ancestors_by up f s ≡ ancestors_by up g s
  unfolding ancestors_by
  enough zero zero s hf hg = refl
  enough zero (suc g) s hf hg = by_up up s (λ e. rw e) (λ p e. absurd (omega (arith, d s p e)))
  enough (suc f) zero s hf hg = by_up up s (λ e. rw e) (λ p e. absurd (omega (arith, d s p e)))
  enough (suc f) (suc g) s hf hg = by_up up s (λ e. rw e) (λ p e.
      let lt : p < s = d s p e in
      rw e (ap (λ (l : List ℕ). p ∷ l) (enough f g p (omega arith) (omega arith))))

  abbrev pub above_by : ℕ → ℕ → Bool
  above_by a s = is_among (ancestors_by up s s) a

  pub above_step : (s p a : ℕ) → up s ≡ Some p → above_by a s ≡ ((p == a) || above_by a p)
  unfolding ancestors_by
  above_step zero p a e = absurd (omega (arith, d 0 p e))
  above_step (suc s) p a e =
      let lt : p < suc s = d (suc s) p e in
      rw e (ap (λ (l : List ℕ). (p == a) || is_among l a) (enough s p p (omega arith) (omega arith)))

  pub above_top : (s a : ℕ) → up s ≡ None → above_by a s ≡ true → ⊥
  unfolding ancestors_by
  above_top zero a e h = true≢false (sym h)
  above_top (suc s) a e h = true≢false (sym (rw e at h))

  pub above_low : (a s : ℕ) → above_by a s ≡ true → a < s
  above_low a s h = below_low up s (λ x p le e. d x p e) s s a (omega arith) h

  pub above_trans_by : (n a b c : ℕ) → c ≤ n → above_by a b ≡ true → above_by b c ≡ true → above_by a c ≡ true
  above_trans_by zero a b c le h k = absurd (omega (arith, above_low b c k))
  above_trans_by (suc n) a b c le h k = by_up up c
      (λ e. absurd (above_top c b e k))
      (λ p e. let lt : p < c = d c p e in
      above_step c p a e ∙ or_right (p == a) (above_by a p) (
      elim (or_cases (p == b) (above_by b p) (sym (above_step c p b e) ∙ k)) [
        | inl q ↦ subst (λ (x : ℕ). above_by a x ≡ true) (sym (eqb-true p b q)) h
        | inr r ↦ above_trans_by n a b p (omega arith) h r
      ]))

  pub above_compare_by : (n a b s : ℕ) → s ≤ n → above_by a s ≡ true → above_by b s ≡ true → (a ≡ b) ⊎ ((above_by a b ≡ true) ⊎ (above_by b a ≡ true))
  above_compare_by zero a b s le h k = absurd (omega (arith, above_low b s k))
  above_compare_by (suc n) a b s le h k = by_up up s
      (λ e. absurd (above_top s b e k))
      (λ p e. let lt : p < s = d s p e in
      elim (or_cases (p == a) (above_by a p) (sym (above_step s p a e) ∙ h)) [
        | inl q ↦ elim (or_cases (p == b) (above_by b p) (sym (above_step s p b e) ∙ k)) [
          | inl w ↦ inl (sym (eqb-true p a q) ∙ eqb-true p b w)
          | inr w ↦ inr (inr (subst (λ (x : ℕ). above_by b x ≡ true) (eqb-true p a q) w))
        ]
        | inr r ↦ elim (or_cases (p == b) (above_by b p) (sym (above_step s p b e) ∙ k)) [
          | inl w ↦ inr (inl (subst (λ (x : ℕ). above_by a x ≡ true) (eqb-true p b w) r))
          | inr w ↦ above_compare_by n a b p (omega arith) r w
        ]
      ])

  pub ancestry : IsAncestry up above_by
  ancestry = record {
    step = above_step;
    low = above_low;
    trans = λ a b c. above_trans_by c a b c (omega arith);
    compare = λ a b s. above_compare_by s a b s (omega arith);
  }
