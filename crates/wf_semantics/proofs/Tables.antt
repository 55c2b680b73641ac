-- What tables of states rest on: the first child is the next state, and the states of a tree in one pass.
use Rattle.std.proofs.Common.{◌≡◌, ℕ, zero, suc, ◌+◌, ◌-◌, ◌<◌, ◌≤◌, ◌==◌, ◌||◌, ◌&&◌, cond, Bool, true, false, ◌∷◌, length, Option, Some, None, filter, find, unwrap_or, get_or, inl, inr, refl, sym, ap, ◌∙◌, subst, arith, eqb-true, eq-eqb, true≢false}
use Rattle.std.specs.List.{range_with_len}
use Rattle.std.specs.Option.{option_map_or}
use Rattle.wf_model.specs.declared.chart.Chart.{Chart}
use Rattle.wf_model.specs.declared.chart.Kind.{Kind}
use Rattle.wf_model.specs.declared.chart.Kind.TheVariants.{Or}
use Rattle.wf_model.specs.Tree.{kind, parent, children, is_child_of, is_above}
use Rattle.wf_semantics.specs.Configuration.{is_in}
use Rattle.wf_semantics.specs.Entry.{first_child, child_towards, tree_by}
use Rattle.wf_semantics.specs.Picks.{PicksChildren, picked_by}
use Rattle.wf_model.proofs.Bools.{or_cases, or_left, or_right, not_true, bool_iff}
use Rattle.wf_semantics.proofs.Lists.{find_no}
use Rattle.wf_semantics.proofs.Children.{lt_or_ge, child_of, parent_inside, mem_child_parent}
use Rattle.wf_semantics.proofs.Facts.{IsChart}
use Rattle.wf_semantics.proofs.Charts.{falls}
use Rattle.wf_semantics.proofs.Places.{above_step, above_none, above_low, above_trans, parent_above, below_child}
use Rattle.wf_semantics.proofs.Grown.{grown_bit, under_grown}
use Rattle.wf_semantics.proofs.Towards.{top_in, towards_is, child_on_path, test_below}

-- the first number of a range that passes a test is the first of those that pass
head_filter : (q : ℕ → Bool) (a n j : ℕ) → a ≤ j → j < a + n → q j ≡ true → ((i : ℕ) → i < j → q i ≡ false) → get_or (filter q (range_with_len a n)) 0 0 ≡ j
head_filter q a zero j h k e f = absurd (omega arith)
head_filter q a (suc n) j h k e f = elim (lt_or_ge a j) [
  | inl l ↦ ap (λ (b : Bool). get_or (cond b (a ∷ filter q (range_with_len (a + 1) n)) (filter q (range_with_len (a + 1) n))) 0 0) (f a l) ∙ head_filter q (a + 1) n j (omega arith) (omega arith) e f
  | inr g ↦ let at : a ≡ j = omega arith in
      ap (λ (b : Bool). get_or (cond b (a ∷ filter q (range_with_len (a + 1) n)) (filter q (range_with_len (a + 1) n))) 0 0) (ap q at ∙ e) ∙ at
]

module _ (chart : Chart) (ok : IsChart chart) where
  -- where the next state isn't p's child, p is above no later state
  none_below : (p q : ℕ) → parent chart (p + 1) ≡ Some q → q < p → (d : ℕ) → p + 1 + d < length chart.states → is_above chart p (p + 1 + d) ≡ true → ⊥
  none_below p q e l zero lt a =
      let a' : is_above chart p (p + 1) ≡ true = subst (λ (y : ℕ). is_above chart p y ≡ true) (omega arith) a in
      elim (or_cases (q == p) (is_above chart p q) (sym (above_step chart ok (p + 1) q p e) ∙ a')) [
        | inl w ↦ omega (arith, eqb-true q p w)
        | inr w ↦ omega (arith, above_low chart ok p q w)
      ]
  none_below p q e l (suc d) lt a =
      go (ok.preorder (p + 1 + d) (omega arith)) (none_below p q e l d (omega arith)) (subst (λ (y : ℕ). is_above chart p y ≡ true) (omega arith) a)
    where
      go : (r : ℕ) × (parent chart (p + 1 + d + 1) ≡ Some r) × (((r == (p + 1 + d)) || is_above chart r (p + 1 + d)) ≡ true) → (is_above chart p (p + 1 + d) ≡ true → ⊥) → is_above chart p (p + 1 + d + 1) ≡ true → ⊥
      go w ih b =
          elim (or_cases (w.0 == (p + 1 + d)) (is_above chart w.0 (p + 1 + d)) w.2) [
            | inl s ↦ elim (or_cases (w.0 == p) (is_above chart p w.0) (sym (above_step chart ok (p + 1 + d + 1) w.0 p w.1) ∙ b)) [
              | inl r ↦ omega (arith, eqb-true w.0 p r, eqb-true w.0 (p + 1 + d) s)
              | inr r ↦ ih (subst (λ (y : ℕ). is_above chart p y ≡ true) (eqb-true w.0 (p + 1 + d) s) r)
            ]
            | inr s ↦ elim (or_cases (w.0 == p) (is_above chart p w.0) (sym (above_step chart ok (p + 1 + d + 1) w.0 p w.1) ∙ b)) [
              | inl r ↦ ih (subst (λ (y : ℕ). is_above chart y (p + 1 + d) ≡ true) (eqb-true w.0 p r) s)
              | inr r ↦ ih (above_trans chart ok p w.0 (p + 1 + d) r s)
            ]
          ]

  -- the first child is the next state
  pub next_child : (p k : ℕ) → parent chart k ≡ Some p → parent chart (p + 1) ≡ Some p
  next_child p k e = go (ok.preorder p (omega (arith, falls chart ok k p e, parent_inside chart k p e)))
    where
      go : (q : ℕ) × (parent chart (p + 1) ≡ Some q) × (((q == p) || is_above chart q p) ≡ true) → parent chart (p + 1) ≡ Some p
      go w = elim (or_cases (w.0 == p) (is_above chart w.0 p) w.2) [
        | inl s ↦ w.1 ∙ ap Some (eqb-true w.0 p s)
        | inr s ↦ absurd (none_below p w.0 w.1 (above_low chart ok w.0 p s) (k - (p + 1)) (omega (arith, falls chart ok k p e, parent_inside chart k p e))
            (subst (λ (y : ℕ). is_above chart p y ≡ true) (omega (arith, falls chart ok k p e)) (parent_above chart ok k p e)))
      ]

  pub first_is_next : (p k : ℕ) → parent chart k ≡ Some p → first_child chart p ≡ p + 1
  unfolding children
  first_is_next p k e =
      let n = next_child p k e in
      head_filter (λ j. is_child_of p (parent chart j)) 0 (length chart.states) (p + 1) (omega arith) (omega (arith, parent_inside chart (p + 1) p n))
      (ap (is_child_of p) n ∙ eq-eqb p p refl)
      (λ i l. not_true (is_child_of p (parent chart i)) (λ w. omega (arith, falls chart ok i p (child_of p (parent chart i) w))))

  -- whether the child towards x is k, as the code tests it
  pub towards_test : (x p k : ℕ) → parent chart k ≡ Some p → (child_towards chart x p == k) ≡ cond (is_above chart p x) ((k == x) || is_above chart k x) (k == (p + 1))
  towards_test x p k e = go (is_above chart p x) refl
    where
      go : (b : Bool) → is_above chart p x ≡ b → (child_towards chart x p == k) ≡ cond b ((k == x) || is_above chart k x) (k == (p + 1))
      go true a =
          let w = child_on_path chart ok x p x (omega arith) a in
          bool_iff (child_towards chart x p == k) ((k == x) || is_above chart k x)
          (λ h. let same : w.0 ≡ k = sym (towards_is chart ok x p w.0 w.1 w.2) ∙ eqb-true (child_towards chart x p) k h in
          elim w.2 [ inl q ↦ or_left (k == x) (is_above chart k x) (eq-eqb k x (sym same ∙ q)) | inr q ↦ or_right (k == x) (is_above chart k x) (subst (λ (y : ℕ). is_above chart y x ≡ true) same q) ])
          (λ h. eq-eqb (child_towards chart x p) k (towards_is chart ok x p k e (elim (or_cases (k == x) (is_above chart k x) h) [ inl q ↦ inl (eqb-true k x q) | inr q ↦ inr q ])))
      go false a =
          let none : find (λ k. (k == x) || is_above chart k x) (children chart p) ≡ None =
          find_no (λ k. (k == x) || is_above chart k x) (children chart p) (λ j m. not_true ((j == x) || is_above chart j x) (λ h. true≢false (sym (below_child chart ok j p x (mem_child_parent chart p j m) (test_below chart ok x j h)) ∙ a))) in
          let first : child_towards chart x p ≡ p + 1 = ap (λ (o : Option ℕ). unwrap_or o (first_child chart p)) none ∙ first_is_next p k e in
          bool_iff (child_towards chart x p == k) (k == (p + 1))
          (λ h. eq-eqb k (p + 1) (sym (eqb-true (child_towards chart x p) k h) ∙ first))
          (λ h. eq-eqb (child_towards chart x p) k (first ∙ sym (eqb-true k (p + 1) h)))

  -- the states of a tree, in one pass: s is in, and each other state by its parent
  pub tree_bit : (pick : ℕ → ℕ) → PicksChildren chart pick → (s z : ℕ) → is_in z (tree_by chart pick s) ≡ ((s == z) || option_map_or (λ p. is_in p (tree_by chart pick s) && picked_by (kind chart p) (pick p) z) (parent chart z) false)
  tree_bit pick fits s z = go (s == z) refl (parent chart z) refl
    where
      go : (b : Bool) → (s == z) ≡ b → (o : Option ℕ) → parent chart z ≡ o → is_in z (tree_by chart pick s) ≡ (b || option_map_or (λ p. is_in p (tree_by chart pick s) && picked_by (kind chart p) (pick p) z) o false)
      go true q o e = subst (λ (y : ℕ). is_in y (tree_by chart pick s) ≡ true) (eqb-true s z q) (top_in chart ok pick s)
      go false q None e = not_true (is_in z (tree_by chart pick s)) (λ h. elim (under_grown chart ok pick fits (length chart.states) s z (omega arith) h) [
        | inl w ↦ true≢false (sym (eq-eqb s z w) ∙ q)
        | inr w ↦ true≢false (sym w ∙ above_none chart ok z s e)
      ])
      go false q (Some p) e = grown_bit chart ok pick fits s z p e (λ w. true≢false (sym (eq-eqb s z (sym w)) ∙ q))

  -- whether an Or state has its child k in, as the code tests it
  pub or_pick : (x p k : ℕ) → kind chart p ≡ Or → parent chart k ≡ Some p → picked_by (kind chart p) (child_towards chart x p) k ≡ cond (is_above chart p x) ((k == x) || is_above chart k x) (k == (p + 1))
  or_pick x p k o e = ap (λ (c : Kind). picked_by c (child_towards chart x p) k) o ∙ towards_test x p k e
