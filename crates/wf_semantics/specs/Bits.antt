-- A tree and its bits, which say of each state whether it is in.
use Rattle.std.specs.Prelude.{ℕ, Bool, unwrap_or, find}
use Rattle.wf_model.specs.declared.chart.Chart.{Chart}
use Rattle.wf_model.specs.Tree.{children}
use Rattle.wf_semantics.specs.Configuration.{Tree}
use Rattle.wf_semantics.specs.Entry.{tree_by, first_child}

-- the child of s that is in; where none is, the first child
abbrev pub active_child : Chart → (ℕ → Bool) → ℕ → ℕ
active_child chart inside s = unwrap_or (find inside (children chart s)) (first_child chart s)

-- the tree of state 0 in which each Or state's active child is the one that is in
abbrev pub tree_of_bits : Chart → (ℕ → Bool) → Tree
tree_of_bits chart inside = tree_by chart (active_child chart inside) 0
