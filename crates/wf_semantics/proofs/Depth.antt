-- A grown tree without its depth.
use Rattle.std.proofs.Common.{◌≡◌, ℕ, zero, suc, ◌+◌, ◌≤◌, List, [], ◌∷◌, length, inl, inr, refl, sym, ap, ap₂, arith}
use Rattle.wf_model.specs.declared.chart.Chart.{Chart}
use Rattle.wf_model.specs.declared.chart.Kind.{Kind}
use Rattle.wf_model.specs.declared.chart.Kind.TheVariants.{Basic, Or, And}
use Rattle.wf_model.specs.Tree.{kind, children}
use Rattle.wf_semantics.specs.Configuration.{Tree, Trees, Leaf, OrNode, AndNode, More}
use Rattle.wf_semantics.specs.Entry.{trees, node, grown, tree_by}
use Rattle.wf_semantics.proofs.Facts.{IsChart}
use Rattle.wf_model.proofs.Bools.{Mem}
use Rattle.wf_semantics.proofs.Charts.{falls}
use Rattle.wf_semantics.specs.Picks.{PicksChildren}
use Rattle.wf_semantics.proofs.Children.{kind_past, mem_child_parent}

trees_same : (f g : ℕ → Tree) (ks : List ℕ) → ((k : ℕ) → Mem k ks → f k ≡ g k) → trees f ks ≡ trees g ks
trees_same f g [] h = refl
trees_same f g (k ∷ ks) h = ap₂ More (h k (inl refl)) (trees_same f g ks (λ x m. h x (inr m)))

leaf_past : (k : Kind) (s : ℕ) (c : Tree) (cs : Trees) → k ≡ Basic → Leaf s ≡ node k s c cs
leaf_past k s c cs e = ap (λ (x : Kind). node x s c cs) (sym e)

module _ (chart : Chart) (ok : IsChart chart) (pick : ℕ → ℕ) (fits : PicksChildren chart pick) where
  grown_same : (f g s : ℕ) → length chart.states ≤ f + s → length chart.states ≤ g + s → grown chart pick f s ≡ grown chart pick g s
  unfolding grown
  grown_same zero zero s hf hg = refl
  grown_same zero (suc g) s hf hg = leaf_past (kind chart s) s (grown chart pick g (pick s)) (trees (grown chart pick g) (children chart s)) (kind_past chart s (omega arith))
  grown_same (suc f) zero s hf hg = sym (leaf_past (kind chart s) s (grown chart pick f (pick s)) (trees (grown chart pick f) (children chart s)) (kind_past chart s (omega arith)))
  grown_same (suc f) (suc g) s hf hg = go (kind chart s) refl
      (λ e. let low = falls chart ok (pick s) s (fits s e) in grown_same f g (pick s) (omega arith) (omega arith))
      (trees_same (grown chart pick f) (grown chart pick g) (children chart s) (λ k m. let low = falls chart ok k s (mem_child_parent chart s k m) in grown_same f g k (omega arith) (omega arith)))
    where
      go : (k : Kind) → kind chart s ≡ k → (kind chart s ≡ Or → grown chart pick f (pick s) ≡ grown chart pick g (pick s)) → trees (grown chart pick f) (children chart s) ≡ trees (grown chart pick g) (children chart s) →
          node k s (grown chart pick f (pick s)) (trees (grown chart pick f) (children chart s)) ≡ node k s (grown chart pick g (pick s)) (trees (grown chart pick g) (children chart s))
      go Basic e one all = refl
      go Or e one all = ap (OrNode s) (one e)
      go And e one all = ap (AndNode s) all

  -- the reader's equation: a basic state is itself, an Or state has the tree of its picked child, an And state those of all
  pub tree_by_reads : (s : ℕ) → tree_by chart pick s ≡ node (kind chart s) s (tree_by chart pick (pick s)) (trees (tree_by chart pick) (children chart s))
  unfolding grown
  tree_by_reads s = grown_same (length chart.states) (suc (length chart.states)) s (omega arith) (omega arith)
