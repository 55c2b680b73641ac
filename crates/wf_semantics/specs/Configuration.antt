-- Configurations: which states are in at once.
use Rattle.std.specs.Prelude.{ℕ, ◌≡◌, ◌||◌, ◌==◌, Bool, false, List, [], ◌∷◌, Some, ⊤}
use Rattle.wf_model.specs.declared.chart.Kind.TheVariants.{Basic, Or, And}
use Rattle.wf_model.specs.declared.chart.Chart.{Chart}
use Rattle.wf_model.specs.Tree.{kind, parent, children}

mutual
  -- a basic state; an Or state with the tree of its active child; an And state with the trees of all its children
  pub data Tree : Type 0 where
    Leaf : ℕ → Tree
    OrNode : ℕ → Tree → Tree
    AndNode : ℕ → Trees → Tree

  pub data Trees : Type 0 where
    NoTrees : Trees
    More : Tree → Trees → Trees

abbrev pub root : Tree → ℕ
root (Leaf s) = s
root (OrNode s c) = s
root (AndNode s cs) = s

abbrev pub roots : Trees → List ℕ
roots NoTrees = []
roots (More c cs) = root c ∷ roots cs

-- state z is a node of the tree
abbrev mutual
  pub is_in : ℕ → Tree → Bool
  is_in z (Leaf s) = s == z
  is_in z (OrNode s c) = (s == z) || is_in z c
  is_in z (AndNode s cs) = (s == z) || is_in_some z cs

  pub is_in_some : ℕ → Trees → Bool
  is_in_some z NoTrees = false
  is_in_some z (More c cs) = is_in z c || is_in_some z cs

-- the tree is one of its root in the chart: a basic state is a leaf, an Or state has the tree of one of its children,
-- an And state has the trees of all its children, in order
abbrev mutual
  pub IsTreeOf : Chart → Tree → Type 0
  IsTreeOf chart (Leaf s) = kind chart s ≡ Basic
  IsTreeOf chart (OrNode s c) = (kind chart s ≡ Or) × (parent chart (root c) ≡ Some s) × IsTreeOf chart c
  IsTreeOf chart (AndNode s cs) = (kind chart s ≡ And) × (roots cs ≡ children chart s) × AreTreesOf chart cs

  pub AreTreesOf : Chart → Trees → Type 0
  AreTreesOf chart NoTrees = ⊤
  AreTreesOf chart (More c cs) = IsTreeOf chart c × AreTreesOf chart cs

-- a configuration is a tree of the chart's root
abbrev pub IsConfiguration : Chart → Tree → Type 0
IsConfiguration chart c = (root c ≡ 0) × IsTreeOf chart c
