-- The nested text of states.
use Rattle.std.specs.Prelude.{ℕ, zero, suc, ◌+◌, ◌*◌, ◌==◌, ◌++◌, Bool, true, false, List, [], length, map, flat_map, slice_get, replicate}
use lib.Chars.{codes}
use Rattle.wf_model.specs.declared.chart.Chart.{Chart}
use Rattle.wf_model.specs.declared.chart.State.{State}
use Rattle.wf_model.specs.Tree.{children, all_states, list_from}
use Rattle.wf_print.specs.Words.{kind_word}
use Rattle.wf_print.specs.Declarations.{place}

-- two spaces for each state above
abbrev pub indent : ℕ → List ℕ
indent depth = replicate (2 * depth) 32

-- KIND NAME at UNIT
abbrev pub state_head : Chart → State → List ℕ
state_head chart state = kind_word state.kind ++ state.name ++ place chart state.unit

abbrev pub opening : Chart → ℕ → State → List ℕ
opening chart depth state = indent depth ++ state_head chart state

abbrev pub closing : ℕ → List ℕ
closing depth = indent depth ++ codes "}\n"

-- `;` ends the line of a state without children; the others stand between braces
abbrev pub body : ℕ → Bool → List ℕ → List ℕ
body depth true inside = codes ";\n"
body depth false inside = codes " {\n" ++ inside ++ closing depth

-- The text of a state and of all below it, down to so many levels. A number that the chart hasn't has no text.
unfoldable pub state_text : Chart → ℕ → ℕ → ℕ → List ℕ
state_text chart zero depth s = []
state_text chart (suc levels) depth s =
    list_from
    (λ state. opening chart depth state ++ body depth (length (children chart s) == 0) (flat_map (state_text chart levels (depth + 1)) (children chart s)))
    (slice_get chart.states s)

-- by state: its children
unfoldable pub children_of : Chart → List (List ℕ)
children_of chart = map (children chart) (all_states chart)
