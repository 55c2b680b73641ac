-- What an accepted chart gives: numbers fall towards the root, and the trees of configurations have its shape.
use Rattle.std.proofs.Common.{◌≡◌, ℕ, zero, suc, ◌+◌, ◌<◌, ◌≤◌, ◌==◌, ◌||◌, cond, Bool, true, false, List, [], ◌∷◌, length, Option, Some, None, filter, inl, inr, refl, sym, ap, ◌∙◌, subst, arith, eqb-true, eq-eqb, add-one}
use Rattle.std.specs.Bool.{⊤}
use Rattle.std.specs.List.{range_with_len}
use Rattle.wf_model.specs.declared.chart.Chart.{Chart}
use Rattle.wf_model.specs.declared.chart.Kind.TheVariants.{And}
use Rattle.wf_model.specs.Tree.{kind, parent, children, is_child_of, is_above, is_among}
use Rattle.wf_semantics.specs.Configuration.{Tree, Trees, Leaf, OrNode, AndNode, NoTrees, More, roots, IsTreeOf, AreTreesOf}
use Rattle.wf_model.proofs.Bools.{or_cases, or_left, or_right, not_true}
use Rattle.wf_semantics.proofs.Lists.{among_mem, range_mem, filter_mem}
use Rattle.wf_semantics.proofs.Ancestors.{Falls, below_low, above_step, ancestry}
use Rattle.wf_semantics.proofs.Setting.{IsShaped, AreShaped, IsAncestry}
use Rattle.wf_semantics.proofs.Children.{lt_or_ge, child_of, parent_past}
use Rattle.wf_semantics.proofs.Facts.{IsChart}

-- the children of s among a list of states: their parent is s, and each stands once
abbrev ChildList : (ℕ → Option ℕ) → ℕ → List ℕ → Type 0
ChildList up s [] = ⊤
ChildList up s (k ∷ ks) = (up k ≡ Some s) × (is_among ks k ≡ false) × ChildList up s ks

child_list : (up : ℕ → Option ℕ) (s a n : ℕ) → ChildList up s (filter (λ k. is_child_of s (up k)) (range_with_len a n))
child_list up s a zero = tt
child_list up s a (suc n) = by_test (is_child_of s (up a)) refl (child_list up s (a + 1) n)
  where
    rest : List ℕ
    rest = filter (λ k. is_child_of s (up k)) (range_with_len (a + 1) n)

    by_test : (b : Bool) → is_child_of s (up a) ≡ b → ChildList up s rest → ChildList up s (cond b (a ∷ rest) rest)
    by_test true e h = (
      child_of s (up a) e,
      not_true (is_among rest a) (λ k.
          let w = range_mem (a + 1) n a (filter_mem (λ k. is_child_of s (up k)) (range_with_len (a + 1) n) a (among_mem rest a k)).0 in omega arith),
      h,
    )
    by_test false e h = h

children_list : (chart : Chart) (s : ℕ) → ChildList (parent chart) s (children chart s)
unfolding children
children_list chart s = child_list (parent chart) s 0 (length chart.states)

-- s is an And state
abbrev pub IsAnd : Chart → ℕ → Type 0
IsAnd chart s = kind chart s ≡ And

mutual
  pub shaped : (chart : Chart) (c : Tree) → IsTreeOf chart c → IsShaped (parent chart) (IsAnd chart) c
  shaped chart (Leaf s) h = tt
  shaped chart (OrNode s c) h = (h.1, shaped chart c h.2)
  shaped chart (AndNode s cs) h = (h.0, all_shaped chart s cs h.2 (subst (λ (l : List ℕ). ChildList (parent chart) s l) (sym h.1) (children_list chart s)))

  pub all_shaped : (chart : Chart) (s : ℕ) (cs : Trees) → AreTreesOf chart cs → ChildList (parent chart) s (roots cs) → AreShaped (parent chart) (IsAnd chart) s cs
  all_shaped chart s NoTrees h l = tt
  all_shaped chart s (More c cs) h l = (l.0, l.1, shaped chart c h.0, all_shaped chart s cs h.1 l.2)

module _ (chart : Chart) (ok : IsChart chart) where
  falls_upto : (n : ℕ) → Falls (parent chart) n
  falls_upto zero s p le e = absurd (none_some (sym ok.root_top ∙ (ap (parent chart) at0 ∙ e)))
    where
      at0 : 0 ≡ s
      at0 = omega arith

      none_some : None ≡ Some p → ⊥
      none_some q = cc
  falls_upto (suc n) s p le e = elim (lt_or_ge n s) [
    | inr h ↦ falls_upto n s p h e
    | inl h ↦ elim (lt_or_ge (n + 1) (length chart.states)) [
      | inl k ↦ here (falls_upto n) (omega arith) k
      | inr k ↦ absurd (past (sym (parent_past chart s (omega arith)) ∙ e))
    ]
  ]
    where
      past : None ≡ Some p → ⊥
      past q = cc

      here : Falls (parent chart) n → s ≡ n + 1 → n + 1 < length chart.states → p < s
      here ih at k =
          let w = ok.preorder n k in
          let q : Some w.0 ≡ Some p = sym w.1 ∙ (ap (parent chart) (sym at) ∙ e) in
          let r : w.0 ≡ p = cc in
          elim (or_cases (w.0 == n) (is_above chart w.0 n) w.2) [
            | inl t ↦ let z = eqb-true w.0 n t in omega arith
            | inr t ↦ let z : w.0 < n = below_low (parent chart) n ih n n w.0 (omega arith) t in omega arith
          ]

  pub falls : (s p : ℕ) → parent chart s ≡ Some p → p < s
  falls s p e = falls_upto s s p (omega arith) e

  pub chart_ancestry : IsAncestry (parent chart) (is_above chart)
  chart_ancestry = ancestry (parent chart) falls

  pub root_above_upto : (n s : ℕ) → s ≤ n → 0 < s → s < length chart.states → is_above chart 0 s ≡ true
  root_above_upto zero s le pos lt = absurd (omega arith)
  root_above_upto (suc n) zero le pos lt = absurd (omega arith)
  root_above_upto (suc n) (suc s) le pos lt = go (ok.preorder s (omega arith)) (λ p. root_above_upto n p)
    where
      go : (p : ℕ) × (parent chart (s + 1) ≡ Some p) × (((p == s) || is_above chart p s) ≡ true) → ((p : ℕ) → p ≤ n → 0 < p → p < length chart.states → is_above chart 0 p ≡ true) → is_above chart 0 (suc s) ≡ true
      go w ih =
          let up : parent chart (suc s) ≡ Some w.0 = rw (← add-one) w.1 in
          let low : w.0 < suc s = falls (suc s) w.0 up in
          above_step (parent chart) falls (suc s) w.0 0 up ∙
          elim (lt_or_ge 0 w.0) [
            | inl pos' ↦ or_right (w.0 == 0) (is_above chart 0 w.0) (ih w.0 (omega arith) pos' (omega arith))
            | inr z ↦ or_left (w.0 == 0) (is_above chart 0 w.0) (eq-eqb w.0 0 (omega arith))
          ]

  pub root_above : (s : ℕ) → 0 < s → s < length chart.states → is_above chart 0 s ≡ true
  root_above s pos lt = root_above_upto s s (omega arith) pos lt
