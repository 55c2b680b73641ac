-- Names that are declared as the parts of a chart.
use Rattle.std.specs.Prelude.{◌≡◌, ◌<◌, ◌+◌, ◌++◌, ℕ, List, [], ◌∷◌, length, drop, Some}
use lib.Chars.{codes}
use Rattle.wf_model.specs.declared.ids.UnitId.{UnitId}
use Rattle.wf_model.specs.declared.ids.EventId.{EventId}
use Rattle.wf_model.specs.declared.chart.Chart.{Chart}
use Rattle.wf_cursor.specs.declared.names.Declared.{Declared}
use Rattle.wf_cursor.specs.declared.names.Declared.TheVariants as declared_as_a
use Rattle.wf_cursor.specs.Names.{declared_as}
use Rattle.wf_words.specs.Names.{unit_name, event_name}
use Rattle.wf_grammar.specs.Phrases.{Names}
use Rattle.wf_readback.proofs.ExprSpans.{AreDeclared}

-- each name of the chart is declared as what it is
pub record Declares (names : Names) (chart : Chart) : Type 0 where
  pub units : (u : UnitId) → u.0 < length chart.units → declared_as names (unit_name chart u) ≡ Some (declared_as_a.Unit u)
  pub events : (e : EventId) → e.0 < length chart.events → declared_as names (event_name chart e) ≡ Some (declared_as_a.Event e)
  pub others : AreDeclared names chart

-- what these names are declared as, numbered from k on
abbrev pub declared_from : {A : Type 0} → (A → List ℕ) → (ℕ → Declared) → ℕ → List A → Names
declared_from name what k [] = []
declared_from name what k (x ∷ xs) = (name x, what k) ∷ declared_from name what (k + 1) xs

abbrev pub unit_of : ℕ → Declared
unit_of k = declared_as_a.Unit (record { 0 = k })

abbrev pub event_of : ℕ → Declared
event_of k = declared_as_a.Event (record { 0 = k })

abbrev pub var_of : ℕ → Declared
var_of k = declared_as_a.Var (record { 0 = k })

abbrev pub act_of : ℕ → Declared
act_of k = declared_as_a.Activity (record { 0 = k })

abbrev pub state_of : ℕ → Declared
state_of k = declared_as_a.State (record { 0 = k })

-- before the first declaration
abbrev pub fault_alone : Names
fault_alone = (codes "fault", event_of 0) ∷ []

-- the names that the declarations declare, in order of the text
abbrev pub names_before_states : Chart → Names
names_before_states chart =
    fault_alone ++ declared_from (λ x. x) unit_of 0 chart.units ++ declared_from (λ x. x.name) event_of 1 (drop 1 chart.events)
    ++ declared_from (λ x. x.name) var_of 0 chart.vars ++ declared_from (λ x. x.name) act_of 0 chart.acts

-- and those of the states behind them
abbrev pub all_names : Chart → Names
all_names chart = names_before_states chart ++ declared_from (λ x. x.name) state_of 0 chart.states
