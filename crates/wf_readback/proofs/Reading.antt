-- What the rules of the reader read of the canonical text, one by one: the steps of the laws.
use Rattle.std.proofs.Common.{◌≡◌, ◌++◌, List, [], ◌∷◌, drop, None, Some, Ok}
use Rattle.std.specs.Prelude.{flat_map, IsTrue}
use lib.Chars.{codes}
use Rattle.wf_model.specs.declared.chart.Chart.{Chart}
use Rattle.wf_model.specs.Accepted.{IsAccepted}
use Rattle.wf_cursor.specs.Input.{Input}
use Rattle.wf_cursor.specs.declared.piece.Piece.TheVariants as pieces
use Rattle.wf_text.specs.Declarations.{declarations}
use Rattle.wf_text.specs.Transitions.{transitions}
use Rattle.wf_grammar.specs.Lexemes.{Lexeme, lexemes}
use Rattle.wf_grammar.specs.Laws.{first_piece}
use Rattle.wf_readback.proofs.Spans.{Span, lexemes_of}
use Rattle.wf_readback.proofs.ChartSpans.{unit_line, event_line, var_line, activity_line, transition_line, is_short}
use Rattle.wf_readback.proofs.Order.{IsInOrder}
use Rattle.wf_readback.proofs.Declares.{Declares, fault_alone, names_before_states, all_names}

-- Where the tokens of an accepted chart's transitions are left and its names are declared, the reader reads these transitions to the
-- end, and declares nothing more.
abbrev pub TransitionsAreRead : Type 0
TransitionsAreRead =
    (chart : Chart) (i : Input) → IsAccepted chart → IsTrue (is_short chart) → Declares i.names chart →
    lexemes i ≡ lexemes_of (flat_map (transition_line chart) chart.transitions) →
    (j : Input) × (transitions i ≡ Ok (chart.transitions, j)) × (j ≡ record i { left = []; at = j.at; nodes = j.nodes })

-- the names of an accepted chart, in order of its canonical text, are declared as what they are
abbrev pub NamesAreDeclared : Type 0
NamesAreDeclared = (chart : Chart) → IsAccepted chart → Declares (all_names chart) chart

-- the lines of all declarations
abbrev pub declaration_lines : Chart → List Span
declaration_lines chart =
    flat_map unit_line chart.units ++ flat_map (event_line chart) (drop 1 chart.events) ++ flat_map var_line chart.vars ++ flat_map (activity_line chart) chart.acts

-- where nothing was declared yet but the event `fault`
abbrev pub with_fault_alone : Input → Input
with_fault_alone i = record i { units = []; events = record { name = codes "fault"; unit = None } ∷ []; vars = []; acts = []; states = []; names = fault_alone }

-- Where the tokens of an accepted chart's declarations are next, and then its root, the reader reads these declarations: what it
-- has declared then is what the chart has, but the states.
abbrev pub DeclarationsAreRead : Type 0
DeclarationsAreRead =
    (chart : Chart) (i : Input) (more : List Lexeme) → IsAccepted chart → IsTrue (is_short chart) → i ≡ with_fault_alone i →
    lexemes i ≡ lexemes_of (declaration_lines chart) ++ more → first_piece more ≡ Some pieces.Or →
    (j : Input) × (declarations i ≡ Ok (tt, j)) × (lexemes j ≡ more)
    × (j ≡ record i { left = j.left; at = j.at; units = chart.units; events = chart.events; vars = chart.vars; acts = chart.acts; names = names_before_states chart; nodes = j.nodes })

-- the states of an accepted chart are numbered as they stand in its canonical text
abbrev pub StatesAreInOrder : Type 0
StatesAreInOrder = (chart : Chart) → IsAccepted chart → IsInOrder chart
