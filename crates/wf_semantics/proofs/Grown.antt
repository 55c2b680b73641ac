-- Default trees, entry trees and the tree after a walk are trees of the chart; and a state of a grown tree is in by its parent.
use Rattle.std.proofs.Common.{◌≡◌, ℕ, zero, suc, ◌+◌, ◌<◌, ◌≤◌, ◌==◌, ◌||◌, ◌&&◌, Bool, true, false, List, [], ◌∷◌, length, Option, Some, None, find, unwrap_or, get_or, inl, inr, refl, sym, ap, ap₂, ◌∙◌, subst, arith, eqb-true, eq-eqb, true≢false}
use Rattle.wf_model.specs.declared.chart.Chart.{Chart}
use Rattle.wf_model.specs.declared.chart.Kind.{Kind}
use Rattle.wf_model.specs.declared.chart.Kind.TheVariants.{Basic, Or, And}
use Rattle.wf_model.specs.Tree.{kind, parent, children, is_above, scope, target, all_transitions}
use Rattle.wf_semantics.specs.Configuration.{Tree, Trees, Leaf, OrNode, AndNode, NoTrees, More, root, roots, is_in, is_in_some, IsTreeOf, AreTreesOf, IsConfiguration}
use Rattle.wf_semantics.specs.Entry.{trees, node, grown, tree_by, first_child, default_tree, child_towards, entry_tree}
use Rattle.wf_semantics.specs.Walk.{entered, walked, all_walked, first_of_scope, new_tree}
use Rattle.wf_semantics.specs.Picks.{PicksChildren, picked_by}
use Rattle.wf_model.proofs.Bools.{Mem, or_left, or_right, and_both, bool_iff}
use Rattle.wf_semantics.proofs.Lists.{range_mem, find_some}
use Rattle.wf_semantics.proofs.Children.{or_of, kind_past, parent_inside, mem_children, mem_child_parent}
use Rattle.wf_semantics.proofs.Facts.{IsChart}
use Rattle.wf_semantics.proofs.Charts.{falls}
use Rattle.wf_semantics.proofs.Places.{IsBelow, node_under, under_low, above_child}
use Rattle.wf_semantics.proofs.Scopes.{scope_facts}

mem_first : (ks : List ℕ) → 0 < length ks → Mem (get_or ks 0 0) ks
mem_first [] h = absurd (omega arith)
mem_first (k ∷ ks) h = inl refl

node_root : (k : Kind) (s : ℕ) (c : Tree) (cs : Trees) → root (node k s c cs) ≡ s
node_root Basic s c cs = refl
node_root Or s c cs = refl
node_root And s c cs = refl

roots_trees : (f : ℕ → Tree) → ((k : ℕ) → root (f k) ≡ k) → (ks : List ℕ) → roots (trees f ks) ≡ ks
roots_trees f h [] = refl
roots_trees f h (k ∷ ks) = ap (λ (x : ℕ). x ∷ roots (trees f ks)) (h k) ∙ ap (λ (l : List ℕ). k ∷ l) (roots_trees f h ks)

all_trees : (chart : Chart) (f : ℕ → Tree) (ks : List ℕ) → ((k : ℕ) → Mem k ks → IsTreeOf chart (f k)) → AreTreesOf chart (trees f ks)
all_trees chart f [] h = tt
all_trees chart f (k ∷ ks) h = (h k (inl refl), all_trees chart f ks (λ x m. h x (inr m)))

pub grown_root : (chart : Chart) (pick : ℕ → ℕ) (f s : ℕ) → root (grown chart pick f s) ≡ s
unfolding grown
grown_root chart pick zero s = refl
grown_root chart pick (suc f) s = node_root (kind chart s) s (grown chart pick f (pick s)) (trees (grown chart pick f) (children chart s))

module _ (chart : Chart) (ok : IsChart chart) where
  module _ (pick : ℕ → ℕ) (fits : PicksChildren chart pick) where
    pub grown_tree : (f s : ℕ) → length chart.states ≤ f + s → IsTreeOf chart (grown chart pick f s)
    unfolding grown
    grown_tree zero s h = kind_past chart s (omega arith)
    grown_tree (suc f) s h = go (kind chart s) refl
        (λ e. grown_tree f (pick s) (omega (arith, falls chart ok (pick s) s (fits s e))))
        (all_trees chart (grown chart pick f) (children chart s) (λ k m. grown_tree f k (omega (arith, falls chart ok k s (mem_child_parent chart s k m)))))
      where
        go : (k : Kind) → kind chart s ≡ k → (kind chart s ≡ Or → IsTreeOf chart (grown chart pick f (pick s))) → AreTreesOf chart (trees (grown chart pick f) (children chart s)) →
            IsTreeOf chart (node k s (grown chart pick f (pick s)) (trees (grown chart pick f) (children chart s)))
        go Basic e one all = e
        go Or e one all = (e, ap (parent chart) (grown_root chart pick f (pick s)) ∙ fits s e, one e)
        go And e one all = (e, roots_trees (grown chart pick f) (grown_root chart pick f) (children chart s), all)

    pub tree_by_tree : (s : ℕ) → IsTreeOf chart (tree_by chart pick s)
    tree_by_tree s = grown_tree (length chart.states) s (omega arith)

  pub first_picks : PicksChildren chart (first_child chart)
  first_picks s e = mem_child_parent chart s (first_child chart s) (mem_first (children chart s) (ok.or_has s e))

  pub towards_picks : (x : ℕ) → PicksChildren chart (child_towards chart x)
  towards_picks x s e = go (find (λ k. (k == x) || is_above chart k x) (children chart s)) refl
    where
      go : (o : Option ℕ) → find (λ k. (k == x) || is_above chart k x) (children chart s) ≡ o → parent chart (unwrap_or o (first_child chart s)) ≡ Some s
      go None q = first_picks s e
      go (Some k) q = mem_child_parent chart s k (find_some (λ k. (k == x) || is_above chart k x) (children chart s) k q).0

  pub default_configuration : IsConfiguration chart (default_tree chart 0)
  default_configuration = (grown_root chart (first_child chart) (length chart.states) 0, tree_by_tree (first_child chart) first_picks 0)

  -- the entry tree of t is a tree of a child of its scope
  pub entry_fits : (t : ℕ) → t < length chart.transitions → (parent chart (root (entry_tree chart t)) ≡ Some (scope chart t)) × IsTreeOf chart (entry_tree chart t)
  entry_fits t lt =
      let top = child_towards chart (target chart t) (scope chart t) in
      let e = or_of (kind chart (scope chart t)) (scope_facts chart ok t lt).0 in (
        ap (parent chart) (grown_root chart (child_towards chart (target chart t)) (length chart.states) top) ∙ towards_picks (target chart t) (scope chart t) e,
        tree_by_tree (child_towards chart (target chart t)) (towards_picks (target chart t)) top,
      )

  module _ (first : ℕ → Option ℕ) (entry : ℕ → Tree) (fits : (s t : ℕ) → first s ≡ Some t → (parent chart (root (entry t)) ≡ Some s) × IsTreeOf chart (entry t)) where
    pub walked_root : (c : Tree) → root (walked first entry c) ≡ root c
    unfolding walked
    walked_root (Leaf s) = refl
    walked_root (OrNode s c) = refl
    walked_root (AndNode s cs) = refl

    entered_tree : (s : ℕ) (o : Option ℕ) (c : Tree) → first s ≡ o → kind chart s ≡ Or → parent chart (root c) ≡ Some s → IsTreeOf chart c → IsTreeOf chart (OrNode s (entered entry o c))
    entered_tree s None c e k p h = (k, p, h)
    entered_tree s (Some t) c e k p h = (k, (fits s t e).0, (fits s t e).1)

    mutual
      unfolding walked all_walked

      pub walked_tree : (c : Tree) → IsTreeOf chart c → IsTreeOf chart (walked first entry c)
      walked_tree (Leaf s) h = h
      walked_tree (OrNode s c) h = entered_tree s (first s) (walked first entry c) refl h.0 (ap (parent chart) (walked_root c) ∙ h.1) (walked_tree c h.2)
      walked_tree (AndNode s cs) h = (h.0, all_walked_roots cs ∙ h.1, all_walked_trees cs h.2)

      pub all_walked_trees : (cs : Trees) → AreTreesOf chart cs → AreTreesOf chart (all_walked first entry cs)
      all_walked_trees NoTrees h = tt
      all_walked_trees (More c cs) h = (walked_tree c h.0, all_walked_trees cs h.1)

      all_walked_roots : (cs : Trees) → roots (all_walked first entry cs) ≡ roots cs
      all_walked_roots NoTrees = refl
      all_walked_roots (More c cs) = ap (λ (x : ℕ). x ∷ roots (all_walked first entry cs)) (walked_root c) ∙ ap (λ (l : List ℕ). root c ∷ l) (all_walked_roots cs)

  pub new_configuration : (enabled : ℕ → Bool) (c : Tree) → IsConfiguration chart c → IsConfiguration chart (new_tree chart enabled c)
  new_configuration enabled c h =
      (walked_root (first_of_scope chart enabled) (entry_tree chart) fits c ∙ h.0, walked_tree (first_of_scope chart enabled) (entry_tree chart) fits c h.1)
    where
      fits : (s t : ℕ) → first_of_scope chart enabled s ≡ Some t → (parent chart (root (entry_tree chart t)) ≡ Some s) × IsTreeOf chart (entry_tree chart t)
      fits s t e =
          let w = find_some (λ t. enabled t && (scope chart t == s)) (all_transitions chart) t e in
          let v = and_both (enabled t) (scope chart t == s) w.1 in
          let lt = (range_mem 0 (length chart.transitions) t w.0).1 in
          let f = entry_fits t (omega arith) in
          (f.0 ∙ ap Some (eqb-true (scope chart t) s v.1), f.1)

pub root_in : (c : Tree) → is_in (root c) c ≡ true
root_in (Leaf s) = eq-eqb s s refl
root_in (OrNode s c) = or_left (s == s) (is_in s c) (eq-eqb s s refl)
root_in (AndNode s cs) = or_left (s == s) (is_in_some s cs) (eq-eqb s s refl)

trees_in : (f : ℕ → Tree) (ks : List ℕ) (z : ℕ) → Mem z ks → is_in z (f z) ≡ true → is_in_some z (trees f ks) ≡ true
trees_in f [] z m h = absurd m
trees_in f (k ∷ ks) z m h = elim m [
  | inl e ↦ or_left (is_in z (f k)) (is_in_some z (trees f ks)) (ap (λ (x : ℕ). is_in z (f x)) e ∙ h)
  | inr r ↦ or_right (is_in z (f k)) (is_in_some z (trees f ks)) (trees_in f ks z r h)
]

and_over_or : (a b c d q : Bool) → a ≡ (b && q) → c ≡ (d && q) → (a || c) ≡ ((b || d) && q)
and_over_or a true c true true e f = ap (λ (x : Bool). x || c) e
and_over_or a true c false true e f = ap (λ (x : Bool). x || c) e
and_over_or a false c true true e f = or_right a c f
and_over_or a false c false true e f = ap₂ (λ (x y : Bool). x || y) e f
and_over_or a true c true false e f = ap₂ (λ (x y : Bool). x || y) e f
and_over_or a true c false false e f = ap₂ (λ (x y : Bool). x || y) e f
and_over_or a false c true false e f = ap₂ (λ (x y : Bool). x || y) e f
and_over_or a false c false false e f = ap₂ (λ (x y : Bool). x || y) e f

trees_bit : (f : ℕ → Tree) (ks : List ℕ) (z p : ℕ) (q : Bool) → ((k : ℕ) → Mem k ks → is_in z (f k) ≡ (is_in p (f k) && q)) → is_in_some z (trees f ks) ≡ (is_in_some p (trees f ks) && q)
trees_bit f [] z p q h = refl
trees_bit f (k ∷ ks) z p q h = and_over_or (is_in z (f k)) (is_in p (f k)) (is_in_some z (trees f ks)) (is_in_some p (trees f ks)) q (h k (inl refl)) (trees_bit f ks z p q (λ x m. h x (inr m)))

module _ (chart : Chart) (ok : IsChart chart) (pick : ℕ → ℕ) (fits : PicksChildren chart pick) where
  abbrev pub Bit : Tree → ℕ → ℕ → Type 0
  Bit c z p = is_in z c ≡ (is_in p c && picked_by (kind chart p) (pick p) z)

  pub under_grown : (f s z : ℕ) → length chart.states ≤ f + s → is_in z (grown chart pick f s) ≡ true → IsBelow chart s z
  under_grown f s z h k = subst (λ (x : ℕ). IsBelow chart x z) (grown_root chart pick f s)
      (node_under chart ok (grown chart pick f s) z (grown_tree chart ok pick fits f s h) k)

  bit_one : (f s z p : ℕ) → length chart.states ≤ suc f + s → parent chart z ≡ Some p → (z ≡ s → ⊥) → kind chart s ≡ Or →
      ((z ≡ pick s → ⊥) → Bit (grown chart pick f (pick s)) z p) → Bit (OrNode s (grown chart pick f (pick s))) z p
  bit_one f s z p h e ne k ih = go (s == z) refl (s == p) refl
    where
      g : Tree
      g = grown chart pick f (pick s)

      go : (a : Bool) → (s == z) ≡ a → (b : Bool) → (s == p) ≡ b → (a || is_in z g) ≡ ((b || is_in p g) && picked_by (kind chart p) (pick p) z)
      go true q b r = absurd (ne (sym (eqb-true s z q)))
      go false q true r = rw (← eqb-true s p r, k) (bool_iff (is_in z g) (pick s == z)
          (λ w. elim (under_grown f (pick s) z (omega (arith, falls chart ok (pick s) s (fits s k))) w) [
            | inl t ↦ eq-eqb (pick s) z t
            | inr t ↦ absurd (omega (
              arith,
              falls chart ok (pick s) s (fits s k),
              eqb-true s p r,
              under_low chart ok (pick s) p
                  (above_child chart ok z p (pick s) e t),
            ))
          ])
          (λ w. subst (λ (x : ℕ). is_in x g ≡ true) (grown_root chart pick f (pick s) ∙ eqb-true (pick s) z w) (root_in g)))
      go false q false r = ih (λ w. not_same (s == p) r (eq-eqb s p (some_same (sym (fits s k) ∙ (ap (parent chart) (sym w) ∙ e)))))
        where
          some_same : Some s ≡ Some p → s ≡ p
          some_same u = cc

          not_same : (b : Bool) → b ≡ false → b ≡ true → ⊥
          not_same b u v = true≢false (sym v ∙ u)

  bit_all : (f s z p : ℕ) → length chart.states ≤ suc f + s → parent chart z ≡ Some p → (z ≡ s → ⊥) → kind chart s ≡ And →
      ((k : ℕ) → Mem k (children chart s) → (z ≡ k → ⊥) → Bit (grown chart pick f k) z p) → Bit (AndNode s (trees (grown chart pick f) (children chart s))) z p
  bit_all f s z p h e ne k ih = go (s == z) refl (s == p) refl
    where
      ts : Trees
      ts = trees (grown chart pick f) (children chart s)

      some_same : (a b : ℕ) → Some a ≡ Some b → a ≡ b
      some_same a b u = cc

      not_same : (b : Bool) → b ≡ false → b ≡ true → ⊥
      not_same b u v = true≢false (sym v ∙ u)

      go : (a : Bool) → (s == z) ≡ a → (b : Bool) → (s == p) ≡ b → (a || is_in_some z ts) ≡ ((b || is_in_some p ts) && picked_by (kind chart p) (pick p) z)
      go true q b r = absurd (ne (sym (eqb-true s z q)))
      go false q true r = rw (← eqb-true s p r, k) (trees_in (grown chart pick f) (children chart s) z
          (mem_children chart s z (e ∙ ap Some (sym (eqb-true s p r))))
          (subst (λ (x : ℕ). is_in x (grown chart pick f z) ≡ true) (grown_root chart pick f z) (root_in (grown chart pick f z))))
      go false q false r = trees_bit (grown chart pick f) (children chart s) z p (picked_by (kind chart p) (pick p) z)
          (λ x m. ih x m (λ w. not_same (s == p) r (eq-eqb s p (some_same s p (sym (mem_child_parent chart s x m) ∙ (ap (parent chart) (sym w) ∙ e))))))

  -- a state other than the root is in where its parent is and has it for its active child, or is an And state
  depth_bit : (f s z p : ℕ) → length chart.states ≤ f + s → parent chart z ≡ Some p → (z ≡ s → ⊥) → Bit (grown chart pick f s) z p
  unfolding grown
  depth_bit zero s z p h e ne = go (s == z) refl (s == p) refl
    where
      go : (a : Bool) → (s == z) ≡ a → (b : Bool) → (s == p) ≡ b → a ≡ (b && picked_by (kind chart p) (pick p) z)
      go true q b r = absurd (ne (sym (eqb-true s z q)))
      go false q true r = absurd (omega (arith, parent_inside chart z p e, falls chart ok z p e, eqb-true s p r))
      go false q false r = refl
  depth_bit (suc f) s z p h e ne = go (kind chart s) refl
      (λ k n. depth_bit f (pick s) z p (omega (arith, falls chart ok (pick s) s (fits s k))) e n)
      (λ k m n. depth_bit f k z p (omega (arith, falls chart ok k s (mem_child_parent chart s k m))) e n)
    where
      go : (k : Kind) → kind chart s ≡ k →
          (kind chart s ≡ Or → (z ≡ pick s → ⊥) → Bit (grown chart pick f (pick s)) z p) →
          ((k : ℕ) → Mem k (children chart s) → (z ≡ k → ⊥) → Bit (grown chart pick f k) z p) →
          Bit (node k s (grown chart pick f (pick s)) (trees (grown chart pick f) (children chart s))) z p
      go Or k one all = bit_one f s z p h e ne k (one k)
      go And k one all = bit_all f s z p h e ne k all
      go Basic k one all = leaf (s == z) refl (s == p) refl
        where
          leaf : (a : Bool) → (s == z) ≡ a → (b : Bool) → (s == p) ≡ b → a ≡ (b && picked_by (kind chart p) (pick p) z)
          leaf true q b r = absurd (ne (sym (eqb-true s z q)))
          leaf false q true r = rw (← eqb-true s p r, k) refl
          leaf false q false r = refl

  pub grown_bit : (s z p : ℕ) → parent chart z ≡ Some p → (z ≡ s → ⊥) → is_in z (tree_by chart pick s) ≡ (is_in p (tree_by chart pick s) && picked_by (kind chart p) (pick p) z)
  grown_bit s z p e ne = depth_bit (length chart.states) s z p (omega arith) e ne
