-- The order of states in the canonical text of a chart.
use Rattle.std.specs.Prelude.{◌≡◌, ℕ, zero, suc, List, [], ◌∷◌, length, flat_map}
use Rattle.wf_model.specs.Limits.{max_depth}
use Rattle.wf_model.specs.declared.chart.Chart.{Chart}
use Rattle.wf_model.specs.Tree.{children}

-- a state and then all below it, down to so many levels, in order of the text
unfoldable pub states_from : Chart → ℕ → ℕ → List ℕ
states_from chart zero s = []
states_from chart (suc levels) s = s ∷ flat_map (states_from chart levels) (children chart s)

-- these are k and the numbers after it
abbrev pub IsRun : ℕ → List ℕ → Type 0
IsRun k [] = Unit {0}
IsRun k (s ∷ ss) = (s ≡ k) × IsRun (suc k) ss

-- the states are numbered as they stand in the text
abbrev pub IsInOrder : Chart → Type 0
IsInOrder chart = IsRun 0 (states_from chart max_depth 0) × (length (states_from chart max_depth 0) ≡ length chart.states)
