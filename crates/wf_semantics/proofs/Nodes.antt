-- Where the nodes of a tree stand.
use Rattle.std.proofs.Common.{◌≡◌, ℕ, ◌≤◌, ◌==◌, ◌||◌, ◌⊎◌, Bool, true, false, Option, Some, inl, inr, refl, sym, ◌∙◌, subst, arith, eqb-true, true≢false, eq-eqb}
use Rattle.wf_model.specs.Tree.{is_among}
use Rattle.wf_semantics.specs.Configuration.{Tree, Trees, Leaf, OrNode, AndNode, NoTrees, More, root, roots, is_in, is_in_some}
use Rattle.wf_model.proofs.Bools.{or_cases, or_left}
use Rattle.wf_semantics.proofs.Setting.{IsShaped, AreShaped, IsAncestry}

-- z is a or below it
abbrev pub Under : (ℕ → ℕ → Bool) → ℕ → ℕ → Type 0
Under above a z = (a ≡ z) ⊎ (above a z ≡ true)

module _ (up : ℕ → Option ℕ) (par : ℕ → Type 0) (above : ℕ → ℕ → Bool) (anc : IsAncestry up above) where
  pub parent_above : (s p : ℕ) → up s ≡ Some p → above p s ≡ true
  parent_above s p h = anc.step s p p h ∙ or_left (p == p) (above p p) (eq-eqb p p refl)

  -- what is above a child is its parent or above that
  pub above_child : (s p a : ℕ) → up s ≡ Some p → above a s ≡ true → Under above a p
  above_child s p a h k = elim (or_cases (p == a) (above a p) (sym (anc.step s p a h) ∙ k)) [ inl e ↦ inl (sym (eqb-true p a e)) | inr r ↦ inr r ]

  pub below_child : (s p z : ℕ) → up s ≡ Some p → Under above s z → above p z ≡ true
  below_child s p z h u = elim u [
    | inl e ↦ subst (λ (x : ℕ). above p x ≡ true) e (parent_above s p h)
    | inr r ↦ anc.trans p s z (parent_above s p h) r
  ]

  pub under_low : (a z : ℕ) → Under above a z → a ≤ z
  under_low a z u = elim u [ inl e ↦ omega arith | inr r ↦ omega (arith, anc.low a z r) ]

  pub under_trans : (a b z : ℕ) → Under above a b → Under above b z → Under above a z
  under_trans a b z u v = elim u [
    | inl e ↦ subst (λ (x : ℕ). Under above x z) (sym e) v
    | inr r ↦ elim v [ inl e ↦ inr (subst (λ (x : ℕ). above a x ≡ true) e r) | inr q ↦ inr (anc.trans a b z r q) ]
  ]

  -- two children of one state with a common state at or below them are the same
  pub siblings : (a b p z : ℕ) → up a ≡ Some p → up b ≡ Some p → Under above a z → Under above b z → a ≡ b
  siblings a b p z ha hb u v = elim u [
    | inl e ↦ elim v [
      | inl f ↦ e ∙ sym f
      | inr r ↦ absurd (omega (arith, anc.low p b (parent_above b p hb), under_low b p (above_child a p b ha (subst (λ (x : ℕ). above b x ≡ true) (sym e) r))))
    ]
    | inr q ↦ elim v [
      | inl f ↦ absurd (omega (arith, anc.low p a (parent_above a p ha), under_low a p (above_child b p a hb (subst (λ (x : ℕ). above a x ≡ true) (sym f) q))))
      | inr r ↦ elim (anc.compare a b z q r) [
        | inl e ↦ e
        | inr w ↦ elim w [
          | inl s ↦ absurd (omega (arith, anc.low p a (parent_above a p ha), under_low a p (above_child b p a hb s)))
          | inr s ↦ absurd (omega (arith, anc.low p b (parent_above b p hb), under_low b p (above_child a p b ha s)))
        ]
      ]
    ]
  ]

  mutual
    pub node_under : (c : Tree) (z : ℕ) → IsShaped up par c → is_in z c ≡ true → Under above (root c) z
    node_under (Leaf s) z sh h = inl (eqb-true s z h)
    node_under (OrNode s c) z sh h = elim (or_cases (s == z) (is_in z c) h) [
      | inl e ↦ inl (eqb-true s z e)
      | inr r ↦ inr (below_child (root c) s z sh.0 (node_under c z sh.1 r))
    ]
    node_under (AndNode s cs) z sh h = elim (or_cases (s == z) (is_in_some z cs) h) [
      | inl e ↦ inl (eqb-true s z e)
      | inr r ↦ inr (some_under s cs z sh.1 r)
    ]

    pub some_under : (s : ℕ) (cs : Trees) (z : ℕ) → AreShaped up par s cs → is_in_some z cs ≡ true → above s z ≡ true
    some_under s NoTrees z sh h = absurd (true≢false (sym h))
    some_under s (More c cs) z sh h = elim (or_cases (is_in z c) (is_in_some z cs) h) [
      | inl e ↦ below_child (root c) s z sh.0 (node_under c z sh.2 e)
      | inr r ↦ some_under s cs z sh.3 r
    ]

  -- a state between s and something at or below s's child r is at or below r
  pub between : (r s x z : ℕ) → up r ≡ Some s → above s x ≡ true → above x z ≡ true → Under above r z → Under above r x
  between r s x z h a k u = elim u [
    | inl e ↦ absurd (omega (arith, anc.low s x a, under_low x s (above_child r s x h (subst (λ (y : ℕ). above x y ≡ true) (sym e) k))))
    | inr q ↦ elim (anc.compare r x z q k) [
      | inl e ↦ inl e
      | inr w ↦ elim w [ inl b ↦ inr b | inr b ↦ absurd (omega (arith, anc.low s x a, under_low x s (above_child r s x h b))) ]
    ]
  ]

  -- x is at or below one of the roots
  abbrev pub UnderSome : Trees → ℕ → Type 0
  UnderSome NoTrees x = ⊥
  UnderSome (More c cs) x = Under above (root c) x ⊎ UnderSome cs x

  pub under_some_above : (s : ℕ) (cs : Trees) (x : ℕ) → AreShaped up par s cs → UnderSome cs x → above s x ≡ true
  under_some_above s NoTrees x sh u = absurd u
  under_some_above s (More c cs) x sh u = elim u [ inl a ↦ below_child (root c) s x sh.0 a | inr b ↦ under_some_above s cs x sh.3 b ]

  pub under_some_trans : (cs : Trees) (x z : ℕ) → UnderSome cs x → above x z ≡ true → UnderSome cs z
  under_some_trans NoTrees x z u k = absurd u
  under_some_trans (More c cs) x z u k = elim u [ inl a ↦ inl (under_trans (root c) x z a (inr k)) | inr b ↦ inr (under_some_trans cs x z b k) ]

  -- what is at or below a is not at or below the roots of other children of a's parent
  pub apart_roots : (s a : ℕ) (cs : Trees) (z : ℕ) → up a ≡ Some s → is_among (roots cs) a ≡ false → AreShaped up par s cs → Under above a z → UnderSome cs z → ⊥
  apart_roots s a NoTrees z ha ne sh u h = h
  apart_roots s a (More c cs) z ha ne sh u h = elim h [
    | inl e ↦ true≢false (sym (or_left (root c == a) (is_among (roots cs) a) (eq-eqb (root c) a (sym (siblings a (root c) s z ha sh.0 u e)))) ∙ ne)
    | inr r ↦ apart_roots s a cs z ha (or_false (root c == a) (is_among (roots cs) a) ne) sh.3 u r
  ]
    where
      or_false : (x y : Bool) → (x || y) ≡ false → y ≡ false
      or_false true y k = absurd (true≢false k)
      or_false false y k = k

  pub some_under_root : (s : ℕ) (cs : Trees) (z : ℕ) → AreShaped up par s cs → is_in_some z cs ≡ true → UnderSome cs z
  some_under_root s NoTrees z sh h = true≢false (sym h)
  some_under_root s (More c cs) z sh h = elim (or_cases (is_in z c) (is_in_some z cs) h) [
    | inl e ↦ inl (node_under c z sh.2 e)
    | inr r ↦ inr (some_under_root s cs z sh.3 r)
  ]
