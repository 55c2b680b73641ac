-- Of the laws. How the text of states reads with no bound on their levels.
use Rattle.std.specs.Prelude.{◌≡◌, ℕ, ◌-◌, ◌==◌, ◌++◌, List, length, flat_map, slice_get, Some}
use Rattle.wf_model.specs.Limits.{max_depth}
use Rattle.wf_model.specs.declared.chart.Chart.{Chart}
use Rattle.wf_model.specs.declared.chart.State.{State}
use Rattle.wf_model.specs.Accepted.{IsAccepted}
use Rattle.wf_model.specs.Tree.{ancestors, children}
use Rattle.wf_print.specs.States.{opening, body, state_text}

-- how many states are above a state
abbrev pub depth : Chart → ℕ → ℕ
depth chart s = length (ancestors chart s)

-- the text of a state and of all below it
abbrev pub text_from : Chart → ℕ → List ℕ
text_from chart s = state_text chart (max_depth - depth chart s) (depth chart s) s

-- the states' text is that of the root; and a state's is its opening and, where it has children, their texts between braces
abbrev pub StatesRead : Type 0
StatesRead =
    (chart : Chart) → IsAccepted chart →
    (state_text chart max_depth 0 0 ≡ text_from chart 0)
    × ((s : ℕ) (state : State) → slice_get chart.states s ≡ Some state →
    text_from chart s ≡ opening chart (depth chart s) state ++ body (depth chart s) (length (children chart s) == 0) (flat_map (text_from chart) (children chart s)))
