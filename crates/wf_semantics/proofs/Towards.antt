-- The child of a state towards another, and the tree that such children make.
use Rattle.std.proofs.Common.{◌≡◌, ℕ, zero, suc, ◌<◌, ◌≤◌, ◌==◌, ◌||◌, Bool, true, List, length, Option, Some, None, find, unwrap_or, inl, inr, refl, sym, ap, ◌∙◌, subst, arith, eqb-true, eq-eqb, true≢false}
use Rattle.wf_model.specs.declared.chart.Chart.{Chart}
use Rattle.wf_model.specs.declared.chart.Kind.{Kind}
use Rattle.wf_model.specs.declared.chart.Kind.TheVariants.{Basic, Or, And}
use Rattle.wf_model.specs.Tree.{kind, parent, children, is_above, scope, target}
use Rattle.wf_semantics.specs.Configuration.{is_in, root}
use Rattle.wf_semantics.specs.Entry.{tree_by, first_child, child_towards, entry_tree}
use Rattle.wf_semantics.specs.Picks.{picked_by}
use Rattle.wf_model.proofs.Bools.{Mem, or_cases, or_left, or_right, and_true, not_true}
use Rattle.wf_semantics.proofs.Lists.{find_some, find_none, find_no}
use Rattle.wf_semantics.proofs.Ancestors.{by_up}
use Rattle.wf_semantics.proofs.Children.{mem_children, mem_child_parent, parent_inside}
use Rattle.wf_semantics.proofs.Facts.{IsChart}
use Rattle.wf_semantics.proofs.Charts.{falls}
use Rattle.wf_semantics.proofs.Places.{IsBelow, above_none, above_low, parent_above, above_child, below_child, under_low, under_trans, siblings}
use Rattle.wf_semantics.proofs.Scopes.{scope_facts}
use Rattle.wf_semantics.proofs.Grown.{grown_root, grown_bit, under_grown, root_in, towards_picks, entry_fits}

module _ (chart : Chart) (ok : IsChart chart) where
  abbrev pub test : ℕ → ℕ → Bool
  test x k = (k == x) || is_above chart k x

  pub test_below : (x k : ℕ) → test x k ≡ true → IsBelow chart k x
  test_below x k h = elim (or_cases (k == x) (is_above chart k x) h) [ inl e ↦ inl (eqb-true k x e) | inr r ↦ inr r ]

  below_test : (x k : ℕ) → IsBelow chart k x → test x k ≡ true
  below_test x k h = elim h [ inl e ↦ or_left (k == x) (is_above chart k x) (eq-eqb k x e) | inr r ↦ or_right (k == x) (is_above chart k x) r ]

  -- a child of s that is x or above x is the child towards x
  pub towards_is : (x s k : ℕ) → parent chart k ≡ Some s → IsBelow chart k x → child_towards chart x s ≡ k
  towards_is x s k e b = go (find (test x) (children chart s)) refl
    where
      go : (o : Option ℕ) → find (test x) (children chart s) ≡ o → unwrap_or o (first_child chart s) ≡ k
      go None q = absurd (find_none (test x) (children chart s) q k (mem_children chart s k e) (below_test x k b))
      go (Some j) q =
          let w = find_some (test x) (children chart s) j q in
          siblings chart ok j k s x (mem_child_parent chart s j w.0) e (test_below x j w.1) b

  -- below x the child towards x is the first child
  pub towards_first : (x p : ℕ) → is_above chart x p ≡ true → child_towards chart x p ≡ first_child chart p
  towards_first x p a = ap (λ (o : Option ℕ). unwrap_or o (first_child chart p)) (find_no (test x) (children chart p) (λ k m. not_true (test x k) (λ h.
      omega (arith, above_low chart ok x p a, falls chart ok k p (mem_child_parent chart p k m), under_low chart ok k x (test_below x k h)))))

  -- what is above x has a child at or above x
  pub child_on_path : (n s x : ℕ) → x ≤ n → is_above chart s x ≡ true → (k : ℕ) × (parent chart k ≡ Some s) × IsBelow chart k x
  child_on_path zero s x le a = absurd (omega (arith, above_low chart ok s x a))
  child_on_path (suc n) s x le a = by_up (parent chart) x
      (λ e. absurd (true≢false (sym a ∙ above_none chart ok x s e)))
      (λ p e. go p e (falls chart ok x p e) (λ h. child_on_path n s p h))
    where
      go : (p : ℕ) → parent chart x ≡ Some p → p < x → (p ≤ n → is_above chart s p ≡ true → (k : ℕ) × (parent chart k ≡ Some s) × IsBelow chart k p) → (k : ℕ) × (parent chart k ≡ Some s) × IsBelow chart k x
      go p e lt ih = elim (above_child chart ok x p s e a) [
        | inl q ↦ (x, e ∙ ap Some (sym q), inl refl)
        | inr r ↦ let w = ih (omega arith) r in (
          w.0,
          w.1,
          under_trans chart ok w.0 p x w.2
              (inr (parent_above chart ok x p e)),
        )
      ]

  -- a state that has a child is not basic
  basic_childless : (s p : ℕ) → parent chart s ≡ Some p → kind chart p ≡ Basic → ⊥
  basic_childless s p e k = subst (λ (l : List ℕ). Mem s l) (ok.basic_has p (omega (arith, falls chart ok s p e, parent_inside chart s p e)) k) (mem_children chart p s e)

  -- the root is in its tree
  pub top_in : (pick : ℕ → ℕ) (s : ℕ) → is_in s (tree_by chart pick s) ≡ true
  top_in pick s = subst (λ (y : ℕ). is_in y (tree_by chart pick s) ≡ true) (grown_root chart pick (length chart.states) s) (root_in (tree_by chart pick s))

  -- the states from top to x are in the tree of top towards x
  towards_in_upto : (top x n s : ℕ) → s ≤ n → IsBelow chart top s → IsBelow chart s x → is_in s (tree_by chart (child_towards chart x) top) ≡ true
  towards_in_upto top x zero s le bs sx = elim bs [
    | inl e ↦ subst (λ (y : ℕ). is_in y (tree_by chart (child_towards chart x) top) ≡ true) e (top_in (child_towards chart x) top)
    | inr a ↦ absurd (omega (arith, above_low chart ok top s a))
  ]
  towards_in_upto top x (suc n) s le bs sx = elim bs [
    | inl e ↦ subst (λ (y : ℕ). is_in y (tree_by chart (child_towards chart x) top) ≡ true) e (top_in (child_towards chart x) top)
    | inr a ↦ by_up (parent chart) s
        (λ e. absurd (true≢false (sym a ∙ above_none chart ok s top e)))
        (λ p e. up_one p e a (falls chart ok s p e) (λ l bp px. towards_in_upto top x n p l bp px))
  ]
    where
      up_one : (p : ℕ) → parent chart s ≡ Some p → is_above chart top s ≡ true → p < s → (p ≤ n → IsBelow chart top p → IsBelow chart p x → is_in p (tree_by chart (child_towards chart x) top) ≡ true) → is_in s (tree_by chart (child_towards chart x) top) ≡ true
      up_one p e a lt ih =
          let inside = ih (omega arith) (above_child chart ok s p top e a)
          (inr (below_child chart ok s p x e sx)) in
          grown_bit chart ok (child_towards chart x) (towards_picks chart ok x) top s p e (λ q. omega (arith, above_low chart ok top s a))
          ∙ and_true (is_in p (tree_by chart (child_towards chart x) top)) (picked_by (kind chart p) (child_towards chart x p) s) inside (picks (kind chart p) refl)
        where
          picks : (k : Kind) → kind chart p ≡ k → picked_by k (child_towards chart x p) s ≡ true
          picks Basic k = absurd (basic_childless s p e k)
          picks Or k = eq-eqb (child_towards chart x p) s (towards_is x p s e sx)
          picks And k = refl

  pub towards_in : (top x s : ℕ) → IsBelow chart top s → IsBelow chart s x → is_in s (tree_by chart (child_towards chart x) top) ≡ true
  towards_in top x s bs sx = towards_in_upto top x s s (omega arith) bs sx

  -- the entry tree of t is that of the child of its scope on the way to its target
  pub entry_root : (t : ℕ) → root (entry_tree chart t) ≡ child_towards chart (target chart t) (scope chart t)
  entry_root t = grown_root chart (child_towards chart (target chart t)) (length chart.states) (child_towards chart (target chart t) (scope chart t))

  -- the child of the scope that t enters is its target, or above it
  pub entry_towards : (t : ℕ) → t < length chart.transitions → IsBelow chart (child_towards chart (target chart t) (scope chart t)) (target chart t)
  entry_towards t lt =
      let w = child_on_path (target chart t) (scope chart t) (target chart t) (omega arith) (scope_facts chart ok t lt).1 in
      subst (λ (k : ℕ). IsBelow chart k (target chart t)) (sym (towards_is (target chart t) (scope chart t) w.0 w.1 w.2)) w.2

  -- the target of t is in its entry tree
  pub target_in : (t : ℕ) → t < length chart.transitions → is_in (target chart t) (entry_tree chart t) ≡ true
  target_in t lt = towards_in (child_towards chart (target chart t) (scope chart t)) (target chart t) (target chart t) (entry_towards t lt) (inl refl)

  -- what t enters is below its scope
  pub entry_below : (t z : ℕ) → t < length chart.transitions → is_in z (entry_tree chart t) ≡ true → is_above chart (scope chart t) z ≡ true
  entry_below t z lt h =
      let top = child_towards chart (target chart t) (scope chart t) in
      let e : parent chart top ≡ Some (scope chart t) = ap (parent chart) (sym (entry_root t)) ∙ (entry_fits chart ok t lt).0 in
      below_child chart ok top (scope chart t) z e (under_grown chart ok (child_towards chart (target chart t)) (towards_picks chart ok (target chart t)) (length chart.states) top z (omega arith) h)
