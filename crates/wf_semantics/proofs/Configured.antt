-- A configuration is the tree that its bits give.
use Rattle.std.proofs.Common.{◌≡◌, ℕ, zero, suc, ◌+◌, ◌<◌, ◌≤◌, ◌==◌, ◌||◌, ◌&&◌, Bool, true, false, List, length, Option, Some, None, find, unwrap_or, inl, inr, refl, sym, ap, ap₂, ◌∙◌, subst, arith, eqb-true, true≢false, add-one}
use Rattle.wf_model.specs.declared.chart.Chart.{Chart}
use Rattle.wf_model.specs.declared.chart.Kind.{Kind}
use Rattle.wf_model.specs.declared.chart.Kind.TheVariants.{Basic, Or, And}
use Rattle.wf_model.specs.Tree.{kind, parent, children, is_above}
use Rattle.wf_semantics.specs.Configuration.{Tree, Trees, Leaf, OrNode, AndNode, NoTrees, More, root, roots, is_in, is_in_some, IsTreeOf, AreTreesOf, IsConfiguration}
use Rattle.wf_semantics.specs.Entry.{trees, node, grown, first_child}
use Rattle.wf_semantics.specs.Picks.{PicksChildren, picked_by}
use Rattle.wf_semantics.specs.Bits.{active_child, tree_of_bits}
use Rattle.wf_model.proofs.Bools.{and_both, not_true}
use Rattle.wf_semantics.proofs.Lists.{find_some, find_none}
use Rattle.wf_semantics.proofs.Ancestors.{by_up}
use Rattle.wf_semantics.proofs.Setting.{AreShaped}
use Rattle.wf_semantics.proofs.Children.{kind_past, parent_inside, mem_children, mem_child_parent}
use Rattle.wf_semantics.proofs.Facts.{IsChart}
use Rattle.wf_semantics.proofs.Charts.{IsAnd, falls, shaped}
use Rattle.wf_semantics.proofs.Places.{IsBelow, IsBelowSome, above_low, above_none, above_child, parent_above, siblings, node_under, apart_roots, below_some_root, under_low, below_child, below_some_above}
use Rattle.wf_semantics.proofs.Grown.{root_in, grown_root, grown_bit, tree_by_tree, first_picks}

not_basic : Basic ≡ Or → ⊥
not_basic q = cc

not_basic_and : Basic ≡ And → ⊥
not_basic_and q = cc

module _ (chart : Chart) (ok : IsChart chart) (inside : ℕ → Bool) where
  skip : (a b : Bool) → a ≡ false → (a || b) ≡ b
  skip true b e = absurd (true≢false e)
  skip false b e = refl

  skip_right : (a b : Bool) → b ≡ false → (a || b) ≡ a
  skip_right true b e = refl
  skip_right false b e = e

  -- the active child of an Or state is the root of its child's tree
  active_is : (s : ℕ) (c : Tree) → kind chart s ≡ Or → parent chart (root c) ≡ Some s → IsTreeOf chart c → ((z : ℕ) → IsBelow chart s z → inside z ≡ is_in z (OrNode s c)) → active_child chart inside s ≡ root c
  active_is s c k e h same = go (find inside (children chart s)) refl
    where
      child_same : (z : ℕ) → parent chart z ≡ Some s → inside z ≡ is_in z c
      child_same z p = same z (inr (parent_above chart ok z s p))
          ∙ skip (s == z) (is_in z c) (not_true (s == z) (λ q. omega (arith, eqb-true s z q, falls chart ok z s p)))

      go : (o : Option ℕ) → find inside (children chart s) ≡ o → unwrap_or o (first_child chart s) ≡ root c
      go None q = absurd (find_none inside (children chart s) q (root c) (mem_children chart s (root c) e) (child_same (root c) e ∙ root_in c))
      go (Some j) q =
          let w = find_some inside (children chart s) j q in
          let p = mem_child_parent chart s j w.0 in
          sym (siblings chart ok (root c) j s j e p
          (node_under chart ok c j h (sym (child_same j p) ∙ w.1)) (inl refl))

  mutual
    unfolding grown

    regrown : (c : Tree) (f : ℕ) → IsTreeOf chart c → length chart.states ≤ f + root c → ((z : ℕ) → IsBelow chart (root c) z → inside z ≡ is_in z c) → grown chart (active_child chart inside) f (root c) ≡ c
    regrown (Leaf s) zero h le same = refl
    regrown (Leaf s) (suc f) h le same = ap (λ (k : Kind). node k s (grown chart (active_child chart inside) f (active_child chart inside s)) (trees (grown chart (active_child chart inside) f) (children chart s))) h
    regrown (OrNode s c) zero h le same = absurd (not_basic (sym (kind_past chart s (omega arith)) ∙ h.0))
    regrown (OrNode s c) (suc f) h le same =
        ap (λ (k : Kind). node k s (grown chart (active_child chart inside) f (active_child chart inside s)) (trees (grown chart (active_child chart inside) f) (children chart s))) h.0
        ∙ ap (λ (x : ℕ). OrNode s (grown chart (active_child chart inside) f x)) (active_is s c h.0 h.1 h.2 same)
        ∙ ap (λ (x : Tree). OrNode s x) (regrown c f h.2 (omega (arith, falls chart ok (root c) s h.1)) (λ z u.
        same z (inr (below_child chart ok (root c) s z h.1 u))
        ∙ skip (s == z) (is_in z c) (not_true (s == z) (λ q. omega (arith, eqb-true s z q, falls chart ok (root c) s h.1, under_low chart ok (root c) z u)))))
    regrown (AndNode s cs) zero h le same = absurd (not_basic_and (sym (kind_past chart s (omega arith)) ∙ h.0))
    regrown (AndNode s cs) (suc f) h le same =
        ap (λ (k : Kind). node k s (grown chart (active_child chart inside) f (active_child chart inside s)) (trees (grown chart (active_child chart inside) f) (children chart s))) h.0
        ∙ ap (λ (l : List ℕ). AndNode s (trees (grown chart (active_child chart inside) f) l)) (sym h.1)
        ∙ ap (AndNode s) (all_regrown s cs f h.2 (shaped chart (AndNode s cs) h).1 (omega arith) (λ z u.
        let a = below_some_above chart ok s cs z (shaped chart (AndNode s cs) h).1 u in
        same z (inr a) ∙ skip (s == z) (is_in_some z cs) (not_true (s == z) (λ q. omega (arith, eqb-true s z q, under_low chart ok s z (inr a), above_low chart ok s z a)))))

    all_regrown : (s : ℕ) (cs : Trees) (f : ℕ) → AreTreesOf chart cs → AreShaped (parent chart) (IsAnd chart) s cs → length chart.states ≤ suc f + s → ((z : ℕ) → IsBelowSome chart ok cs z → inside z ≡ is_in_some z cs) → trees (grown chart (active_child chart inside) f) (roots cs) ≡ cs
    all_regrown s NoTrees f h sh le same = refl
    all_regrown s (More c cs) f h sh le same =
        ap₂ More
        (regrown c f h.0 (omega (arith, falls chart ok (root c) s sh.0)) (λ z u. same z (inl u) ∙ skip_right (is_in z c) (is_in_some z cs) (not_true (is_in_some z cs) (λ q.
        apart_roots chart ok s (root c) cs z sh.0 sh.1 sh.3 u
        (below_some_root chart ok s cs z sh.3 q)))))
        (all_regrown s cs f h.1 sh.3 le (λ z u. same z (inr u) ∙ skip (is_in z c) (is_in_some z cs) (not_true (is_in z c) (λ q.
        apart_roots chart ok s (root c) cs z sh.0 sh.1 sh.3
        (node_under chart ok c z h.0 q) u))))

-- what is above or at the root is a state of the chart
pub above_inside : (chart : Chart) → IsChart chart → (a z : ℕ) → is_above chart a z ≡ true → z < length chart.states
above_inside chart ok a z h = by_up (parent chart) z (λ e. absurd (true≢false (sym h ∙ above_none chart ok z a e))) (λ p e. parent_inside chart z p e)

-- where the bits are those of a configuration, their tree is the configuration
pub tree_of_same_bits : (chart : Chart) → IsChart chart → (inside : ℕ → Bool) (c : Tree) → IsConfiguration chart c → ((z : ℕ) → z < length chart.states → inside z ≡ is_in z c) → tree_of_bits chart inside ≡ c
tree_of_same_bits chart ok inside c h same =
    ap (grown chart (active_child chart inside) (length chart.states)) (sym h.0)
    ∙ regrown chart ok inside c (length chart.states) h.1 (omega arith) (λ z u. same z (elim u [
      | inl e ↦ omega (arith, e, h.0, ok.some_state)
      | inr a ↦ above_inside chart ok (root c) z a
    ]))

pub tree_of_its_bits : (chart : Chart) → IsChart chart → (c : Tree) → IsConfiguration chart c → tree_of_bits chart (λ z. is_in z c) ≡ c
tree_of_its_bits chart ok c h = tree_of_same_bits chart ok (λ z. is_in z c) c h (λ z lt. refl)

-- two configurations with the same states in are equal
pub same_configuration : (chart : Chart) → IsChart chart → (c d : Tree) → IsConfiguration chart c → IsConfiguration chart d → ((z : ℕ) → z < length chart.states → is_in z c ≡ is_in z d) → c ≡ d
same_configuration chart ok c d hc hd same = sym (tree_of_its_bits chart ok c hc) ∙ tree_of_same_bits chart ok (λ z. is_in z c) d hd same

module _ (chart : Chart) (ok : IsChart chart) where
  pub active_picks : (inside : ℕ → Bool) → PicksChildren chart (active_child chart inside)
  active_picks inside s e = go (find inside (children chart s)) refl
    where
      go : (o : Option ℕ) → find inside (children chart s) ≡ o → parent chart (unwrap_or o (first_child chart s)) ≡ Some s
      go None q = first_picks chart ok s e
      go (Some k) q = mem_child_parent chart s k (find_some inside (children chart s) k q).0

  -- whatever the bits are
  pub bits_configuration : (inside : ℕ → Bool) → IsConfiguration chart (tree_of_bits chart inside)
  bits_configuration inside = (grown_root chart (active_child chart inside) (length chart.states) 0, tree_by_tree chart ok (active_child chart inside) (active_picks inside) 0)

  module _ (c : Tree) (conf : IsConfiguration chart c) where
    pub root_is_in : is_in 0 c ≡ true
    root_is_in = subst (λ (z : ℕ). is_in z c ≡ true) conf.0 (root_in c)

    pub inside_states : (z : ℕ) → is_in z c ≡ true → z < length chart.states
    inside_states z h = elim (node_under chart ok c z conf.1 h) [
      | inl e ↦ omega (arith, e, conf.0, ok.some_state)
      | inr a ↦ above_inside chart ok (root c) z a
    ]

    -- a state is in where its parent is and has it for its active child, or is an And state
    pub configuration_bit : (z p : ℕ) → parent chart z ≡ Some p → is_in z c ≡ (is_in p c && picked_by (kind chart p) (active_child chart (λ z. is_in z c) p) z)
    configuration_bit z p e =
        let its = tree_of_its_bits chart ok c conf in
        ap (is_in z) (sym its)
        ∙ grown_bit chart ok (active_child chart (λ z. is_in z c)) (active_picks (λ z. is_in z c)) 0 z p e (λ q. omega (arith, falls chart ok z p e))
        ∙ ap (λ (t : Tree). is_in p t && picked_by (kind chart p) (active_child chart (λ z. is_in z c) p) z) its

    pub parent_is_in : (z p : ℕ) → parent chart z ≡ Some p → is_in z c ≡ true → is_in p c ≡ true
    parent_is_in z p e h = (and_both (is_in p c) (picked_by (kind chart p) (active_child chart (λ z. is_in z c) p) z) (sym (configuration_bit z p e) ∙ h)).0

    -- and so is each state above one that is in
    above_is_in_upto : (n a z : ℕ) → z ≤ n → is_above chart a z ≡ true → is_in z c ≡ true → is_in a c ≡ true
    above_is_in_upto zero a z le h i = absurd (omega (arith, above_low chart ok a z h))
    above_is_in_upto (suc n) a z le h i = by_up (parent chart) z
        (λ e. absurd (true≢false (sym h ∙ above_none chart ok z a e)))
        (λ p e. let j = parent_is_in z p e i in elim (above_child chart ok z p a e h) [
          | inl q ↦ subst (λ (y : ℕ). is_in y c ≡ true) (sym q) j
          | inr q ↦ above_is_in_upto n a p (omega (arith, falls chart ok z p e)) q j
        ])

    pub above_is_in : (a z : ℕ) → is_above chart a z ≡ true → is_in z c ≡ true → is_in a c ≡ true
    above_is_in a z h i = above_is_in_upto z a z (omega arith) h i

  -- bits that have the root in, and each other state where its parent has, are those of their tree
  module _ (inside : ℕ → Bool) (top : inside 0 ≡ true) (local : (z p : ℕ) → parent chart z ≡ Some p → inside z ≡ (inside p && picked_by (kind chart p) (active_child chart inside p) z)) where
    bits_upto : (n z : ℕ) → z ≤ n → z < length chart.states → is_in z (tree_of_bits chart inside) ≡ inside z
    bits_upto zero z le lt = let at : z ≡ 0 = omega arith in
        subst (λ (y : ℕ). is_in y (tree_of_bits chart inside) ≡ inside y) (sym at) (root_is_in (tree_of_bits chart inside) (bits_configuration inside) ∙ sym top)
    bits_upto (suc n) zero le lt = root_is_in (tree_of_bits chart inside) (bits_configuration inside) ∙ sym top
    bits_upto (suc n) (suc z) le lt = go (ok.preorder z (omega arith)) (λ p l. bits_upto n p l)
      where
        go : (p : ℕ) × (parent chart (z + 1) ≡ Some p) × (((p == z) || is_above chart p z) ≡ true) → ((p : ℕ) → p ≤ n → p < length chart.states → is_in p (tree_of_bits chart inside) ≡ inside p) → is_in (suc z) (tree_of_bits chart inside) ≡ inside (suc z)
        go w ih =
            let e : parent chart (suc z) ≡ Some w.0 = rw (← add-one) w.1 in
            let low : w.0 < suc z = falls chart ok (suc z) w.0 e in
            grown_bit chart ok (active_child chart inside) (active_picks inside) 0 (suc z) w.0 e (λ q. omega arith)
            ∙ ap (λ (b : Bool). b && picked_by (kind chart w.0) (active_child chart inside w.0) (suc z)) (ih w.0 (omega arith) (omega arith))
            ∙ sym (local (suc z) w.0 e)

    pub bits_of_tree : (z : ℕ) → z < length chart.states → is_in z (tree_of_bits chart inside) ≡ inside z
    bits_of_tree z lt = bits_upto z z (omega arith) lt
