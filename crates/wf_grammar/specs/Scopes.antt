-- Of the laws. What is declared where a rule begins, and what a declaration adds.
use Rattle.std.specs.Prelude.{◌≡◌, ◌≤◌, ℕ, List, [], ◌∷◌, ◌++◌, length, None}
use Rattle.wf_model.specs.Limits.{max_name}
use Rattle.wf_model.specs.Ids.{unit_id, event_id, var_id, act_id, state_id}
use Rattle.wf_model.specs.declared.ids.UnitId.{UnitId}
use Rattle.wf_model.specs.declared.ids.EventId.{EventId}
use Rattle.wf_model.specs.declared.ids.VarId.{VarId}
use Rattle.wf_model.specs.declared.ids.ActId.{ActId}
use Rattle.wf_model.specs.declared.ids.StateId.{StateId}
use Rattle.wf_model.specs.declared.chart.Event.{Event}
use Rattle.wf_model.specs.declared.chart.Variable.{Variable}
use Rattle.wf_model.specs.declared.chart.Activity.{Activity}
use Rattle.wf_model.specs.declared.chart.State.{State}
use Rattle.wf_cursor.specs.declared.names.Declared.{Declared}
use Rattle.wf_cursor.specs.declared.names.Declared.TheVariants as declared_as_a
use Rattle.wf_cursor.specs.declared.piece.Piece.TheVariants as pieces
use Rattle.wf_cursor.specs.Names.{declared_as}
use Rattle.wf_cursor.specs.Input.{Input, start_of}
use Rattle.wf_grammar.specs.Lexemes.{Lexeme}
use Rattle.wf_grammar.specs.Phrases.{Names, Is}

-- the units, events, variables, activities and states that are declared so far, in order, and the names of all of them
pub record Scope : Type 0 where
  pub units : List (List ℕ)
  pub events : List Event
  pub vars : List Variable
  pub acts : List Activity
  pub states : List State
  pub names : Names

-- what an input has declared
abbrev pub scope_of : Input → Scope
scope_of i = record { units = i.units; events = i.events; vars = i.vars; acts = i.acts; states = i.states; names = i.names }

-- before the first declaration, as at the start of every text, there is the event `fault`
abbrev pub first_scope : Scope
first_scope = scope_of (start_of [] [])

-- ---- names

-- the lexeme is a name that isn't declared yet
pub record IsNewName (s : Scope) (w : Lexeme) : Type 0 where
  pub is_name : Is pieces.Name w
  pub is_short : length w.bytes ≤ max_name
  pub is_new : declared_as s.names w.bytes ≡ None

-- this name is declared as this
abbrev pub named : Lexeme → Declared → Scope → Scope
named w what s = record s { names = s.names ++ (w.bytes, what) ∷ [] }

-- the numbers that the next ones have
abbrev pub next_unit : Scope → UnitId
next_unit s = unit_id (length s.units)

abbrev pub next_event : Scope → EventId
next_event s = event_id (length s.events)

abbrev pub next_var : Scope → VarId
next_var s = var_id (length s.vars)

abbrev pub next_act : Scope → ActId
next_act s = act_id (length s.acts)

abbrev pub next_state : Scope → StateId
next_state s = state_id (length s.states)

-- the name is the next unit's, event's, variable's, activity's or state's
abbrev pub unit_named : Lexeme → Scope → Scope
unit_named w s = named w (declared_as_a.Unit (next_unit s)) s

abbrev pub event_named : Lexeme → Scope → Scope
event_named w s = named w (declared_as_a.Event (next_event s)) s

abbrev pub var_named : Lexeme → Scope → Scope
var_named w s = named w (declared_as_a.Var (next_var s)) s

abbrev pub act_named : Lexeme → Scope → Scope
act_named w s = named w (declared_as_a.Activity (next_act s)) s

abbrev pub state_named : Lexeme → Scope → Scope
state_named w s = named w (declared_as_a.State (next_state s)) s

-- ---- one more

abbrev pub with_unit : List ℕ → Scope → Scope
with_unit name s = record s { units = s.units ++ name ∷ [] }

abbrev pub with_event : Event → Scope → Scope
with_event event s = record s { events = s.events ++ event ∷ [] }

abbrev pub with_var : Variable → Scope → Scope
with_var var s = record s { vars = s.vars ++ var ∷ [] }

abbrev pub with_act : Activity → Scope → Scope
with_act act s = record s { acts = s.acts ++ act ∷ [] }

abbrev pub with_state : State → Scope → Scope
with_state state s = record s { states = s.states ++ state ∷ [] }
