-- Of the laws. Choices of active children.
use Rattle.std.specs.Prelude.{ℕ, ◌≡◌, ◌==◌, Bool, true, false, Some}
use Rattle.wf_model.specs.declared.chart.Kind.{Kind}
use Rattle.wf_model.specs.declared.chart.Kind.TheVariants.{Basic, Or, And}
use Rattle.wf_model.specs.declared.chart.Chart.{Chart}
use Rattle.wf_model.specs.Tree.{kind, parent}

-- `pick` names a child of each Or state
abbrev pub PicksChildren : Chart → (ℕ → ℕ) → Type 0
PicksChildren chart pick = (s : ℕ) → kind chart s ≡ Or → parent chart (pick s) ≡ Some s

-- whether a state of this kind, whose active child is x, has its child z in
abbrev pub picked_by : Kind → ℕ → ℕ → Bool
picked_by Basic x z = false
picked_by Or x z = x == z
picked_by And x z = true
