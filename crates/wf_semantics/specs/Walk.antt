-- The step on a configuration: which transitions fire, and the tree that they leave.
use Rattle.std.specs.Prelude.{ℕ, ◌&&◌, ◌==◌, Bool, List, [], ◌∷◌, ◌++◌, Option, Some, None, find, filter}
use Rattle.wf_model.specs.declared.chart.Chart.{Chart}
use Rattle.wf_model.specs.Tree.{scope, all_transitions, is_among}
use Rattle.wf_semantics.specs.Configuration.{Tree, Trees, Leaf, OrNode, AndNode, NoTrees, More}
use Rattle.wf_semantics.specs.Entry.{entry_tree}

-- the enabled transition with the lowest number whose scope is s
abbrev pub first_of_scope : Chart → (ℕ → Bool) → ℕ → Option ℕ
first_of_scope chart enabled s = find (λ t. enabled t && (scope chart t == s)) (all_transitions chart)

-- the active child's new tree: the entry tree of the transition that fires, and its own walk where none does
abbrev pub entered : (ℕ → Tree) → Option ℕ → Tree → Tree
entered entry None c = c
entered entry (Some t) c = entry t

abbrev pub fired_here : Option ℕ → List ℕ → List ℕ
fired_here None ts = ts
fired_here (Some t) ts = t ∷ []

-- the tree after the walk, where `first s` is the transition that fires at the Or state s, if any, and `entry t` is what
-- it enters
unfoldable mutual
  pub walked : (ℕ → Option ℕ) → (ℕ → Tree) → Tree → Tree
  walked first entry (Leaf s) = Leaf s
  walked first entry (OrNode s c) = OrNode s (entered entry (first s) (walked first entry c))
  walked first entry (AndNode s cs) = AndNode s (all_walked first entry cs)

  pub all_walked : (ℕ → Option ℕ) → (ℕ → Tree) → Trees → Trees
  all_walked first entry NoTrees = NoTrees
  all_walked first entry (More c cs) = More (walked first entry c) (all_walked first entry cs)

-- the transitions that fire on the walk
unfoldable mutual
  pub fired : (ℕ → Option ℕ) → Tree → List ℕ
  fired first (Leaf s) = []
  fired first (OrNode s c) = fired_here (first s) (fired first c)
  fired first (AndNode s cs) = all_fired first cs

  pub all_fired : (ℕ → Option ℕ) → Trees → List ℕ
  all_fired first NoTrees = []
  all_fired first (More c cs) = fired first c ++ all_fired first cs

-- the new configuration, where these transitions are enabled
abbrev pub new_tree : Chart → (ℕ → Bool) → Tree → Tree
new_tree chart enabled c = walked (first_of_scope chart enabled) (entry_tree chart) c

-- the transitions that fire, in ascending order
abbrev pub fired_of : Chart → (ℕ → Bool) → Tree → List ℕ
fired_of chart enabled c = filter (is_among (fired (first_of_scope chart enabled) c)) (all_transitions chart)
