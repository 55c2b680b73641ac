-- Default trees and entry trees.
use Rattle.std.specs.Prelude.{ℕ, zero, suc, ◌||◌, ◌==◌, List, [], ◌∷◌, length, unwrap_or, find, slice_index}
use Rattle.wf_model.specs.declared.chart.Kind.{Kind}
use Rattle.wf_model.specs.declared.chart.Kind.TheVariants.{Basic, Or, And}
use Rattle.wf_model.specs.declared.chart.Chart.{Chart}
use Rattle.wf_model.specs.Tree.{kind, children, is_above, scope, target}
use Rattle.wf_semantics.specs.Configuration.{Tree, Trees, Leaf, OrNode, AndNode, NoTrees, More}

-- the trees that f gives of these states
abbrev pub trees : (ℕ → Tree) → List ℕ → Trees
trees f [] = NoTrees
trees f (s ∷ ss) = More (f s) (trees f ss)

-- a state of this kind with its active child's tree, or with all its children's
abbrev pub node : Kind → ℕ → Tree → Trees → Tree
node Basic s c cs = Leaf s
node Or s c cs = OrNode s c
node And s c cs = AndNode s cs

-- the tree of state s in which each Or state's active child is the one that `pick` names, down to this depth
unfoldable pub grown : Chart → (ℕ → ℕ) → ℕ → ℕ → Tree
grown chart pick zero s = Leaf s
grown chart pick (suc depth) s =
    node (kind chart s) s (grown chart pick depth (pick s)) (trees (grown chart pick depth) (children chart s))

-- the whole of it: no state is deeper than the chart has states
abbrev pub tree_by : Chart → (ℕ → ℕ) → ℕ → Tree
tree_by chart pick s = grown chart pick (length chart.states) s

abbrev pub first_child : Chart → ℕ → ℕ
first_child chart s = slice_index (children chart s) 0

-- the default tree of state s: each Or state's first child is active
abbrev pub default_tree : Chart → ℕ → Tree
default_tree chart s = tree_by chart (first_child chart) s

-- the child of s that is, or contains, x; where none does, the first child
abbrev pub child_towards : Chart → ℕ → ℕ → ℕ
child_towards chart x s = unwrap_or (find (λ k. (k == x) || is_above chart k x) (children chart s)) (first_child chart s)

-- the entry tree of transition t: that of the child of its scope that is, or contains, its target; above the target each
-- Or state's active child is the one towards it
abbrev pub entry_tree : Chart → ℕ → Tree
entry_tree chart t = tree_by chart (child_towards chart (target chart t)) (child_towards chart (target chart t) (scope chart t))
