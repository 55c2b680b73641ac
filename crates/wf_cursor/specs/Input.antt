-- What a rule reads from, and the steps that every rule is made of.
use Rattle.std.specs.Prelude.{◌≡◌, ◌≢◌, ℕ, ◌+◌, ◌<◌, ◌≤◌, Bool, false, if◌then◌else◌, nat_le, nat_lt, List, [], ◌∷◌, ◌++◌, length, take as take_first, drop, slice_range, Option, Some, None, Result, Ok, Err}
use lib.Chars.{codes}
use Rattle.wf_model.specs.Limits.{max_name, max_nodes, max_int}
use Rattle.wf_model.specs.declared.ids.UnitId.{UnitId}
use Rattle.wf_model.specs.declared.ids.EventId.{EventId}
use Rattle.wf_model.specs.declared.ids.VarId.{VarId}
use Rattle.wf_model.specs.declared.ids.ActId.{ActId}
use Rattle.wf_model.specs.declared.ids.StateId.{StateId}
use Rattle.wf_model.specs.declared.chart.Event.{Event}
use Rattle.wf_model.specs.declared.chart.Variable.{Variable}
use Rattle.wf_model.specs.declared.chart.Activity.{Activity}
use Rattle.wf_model.specs.declared.chart.State.{State}
use Rattle.wf_model.specs.declared.chart.Transition.{Transition}
use Rattle.wf_model.specs.declared.chart.Chart.{Chart}
use Rattle.wf_lex.specs.declared.token.Token.{Token}
use Rattle.wf_cursor.specs.declared.fault.TextFault.{TextFault}
use Rattle.wf_cursor.specs.declared.fault.TextFault.TheVariants.{Syntax, UnknownName, DoubleName, Oversize, NoMemory}
use Rattle.wf_cursor.specs.declared.names.Declared.{Declared}
use Rattle.wf_cursor.specs.declared.names.Declared.TheVariants as declared_as_a
use Rattle.wf_cursor.specs.declared.piece.Piece.{Piece}
use Rattle.wf_cursor.specs.declared.piece.Piece.TheVariants as pieces
use Rattle.wf_cursor.specs.Pieces.{piece_of, same_piece}
use Rattle.wf_cursor.specs.Names.{declared_as}
use Rattle.wf_cursor.specs.Values.{number_up_to, short_text}

pub record Input : Type 0 where
  -- the text, its tokens that are left, and how many were read
  pub text : List ℕ
  pub left : List Token
  pub at : ℕ
  -- what was declared so far
  pub units : List (List ℕ)
  pub events : List Event
  pub vars : List Variable
  pub acts : List Activity
  pub states : List State
  -- all names so far, but the chart's
  pub names : List (List ℕ × Declared)
  -- how many nodes the expression that is being read has so far
  pub nodes : ℕ

-- before the first token, with the event `fault` declared
unfoldable pub start_of : List ℕ → List Token → Input
start_of text tokens = record {
  text = text;
  left = tokens;
  at = 0;
  units = [];
  events = record { name = codes "fault"; unit = None } ∷ [];
  vars = [];
  acts = [];
  states = [];
  names = (codes "fault", declared_as_a.Event (record { 0 = 0 })) ∷ [];
  nodes = 0;
}

-- ---- the next token

abbrev pub first : List Token → Option Token
first [] = None
first (t ∷ ts) = Some t

unfoldable pub ahead : Input → Option Token
ahead i = first i.left

abbrev pub bytes_at : List ℕ → Option Token → List ℕ
bytes_at text None = []
bytes_at text (Some t) = slice_range text t.start t.end

-- its bytes
unfoldable pub spelling : Input → List ℕ
spelling i = bytes_at i.text (ahead i)

abbrev pub piece_at : List ℕ → Option Token → Option Piece
piece_at bytes None = None
piece_at bytes (Some t) = Some (piece_of t.kind bytes)

-- what it is
unfoldable pub piece : Input → Option Piece
piece i = piece_at (spelling i) (ahead i)

-- what it is declared as
unfoldable pub declared : Input → Option Declared
declared i = declared_as i.names (spelling i)

-- behind it
unfoldable pub next : Input → Input
next i = record i { left = drop 1 i.left; at = i.at + length (take_first 1 i.left) }

-- ---- rules

abbrev pub Outcome : Type 0 → Type 0
Outcome A = Result (A × Input) TextFault

abbrev pub Parser : Type 0 → Type 0
Parser A = Input → Outcome A

abbrev pub and_then : {A B : Type 0} → Outcome A → (A → Parser B) → Outcome B
and_then (Ok p) f = f p.0 p.1
and_then (Err e) f = Err e

infixl 10 ◌>>=◌
abbrev pub ◌>>=◌ : {A B : Type 0} → Parser A → (A → Parser B) → Parser B
p >>= f = λ i. and_then (p i) f

infixl 10 ◌>>◌
abbrev pub ◌>>◌ : {A B : Type 0} → Parser A → Parser B → Parser B
p >> q = p >>= (λ _. q)

abbrev pub pure : {A : Type 0} → A → Parser A
pure a = λ i. Ok (a, i)

-- what is read off here
abbrev pub here : {A : Type 0} → (Input → A) → Parser A
here f = λ i. Ok (f i, i)

-- what was declared changes so
abbrev pub changed : (Input → Input) → Parser (Unit {0})
changed f = λ i. Ok (tt, f i)

abbrev pub peek : Parser (Option Piece)
peek = here piece

-- takes the next token, if there is one
abbrev pub take : Parser (Unit {0})
take = λ i. Ok (tt, next i)

-- no rule goes on with the next token, or there is none
abbrev pub syntax : {A : Type 0} → Parser A
syntax = λ i. Err (Syntax i.at)

abbrev pub oversize : {A : Type 0} → Parser A
oversize = λ i. Err (Oversize i.at)

abbrev pub unknown_name : {A : Type 0} → Parser A
unknown_name = λ i. Err (UnknownName i.at)

abbrev pub double_name : {A : Type 0} → Parser A
double_name = λ i. Err (DoubleName i.at)

abbrev pub is_piece : Piece → Option Piece → Bool
is_piece wanted None = false
is_piece wanted (Some found) = same_piece found wanted

-- the next token is this one
unfoldable pub sees : Piece → Input → Bool
sees wanted i = is_piece wanted (piece i)

-- takes the next token if it is this one
unfoldable pub eat : Piece → Parser Bool
eat wanted = λ i. Ok (sees wanted i, if sees wanted i then next i else i)

-- takes the next token, which has to be this one
unfoldable pub expect : Piece → Parser (Unit {0})
expect wanted = λ i. if sees wanted i then Ok (tt, next i) else syntax i

-- ---- names

-- the next token has to be a name of at most max_name bytes
unfoldable pub name_ahead : Parser (Unit {0})
name_ahead = λ i. if sees pieces.Name i then (if nat_le (length (spelling i)) max_name then Ok (tt, i) else oversize i) else syntax i

-- any name
unfoldable pub name : Parser (List ℕ)
name = name_ahead >> (λ i. Ok (spelling i, next i))

-- the next name is declared as this
unfoldable pub with_name : Declared → Input → Input
with_name what i = record i { names = i.names ++ (spelling i, what) ∷ [] }

abbrev pub new_name_by : Declared → Option Declared → Parser (List ℕ)
new_name_by what None = λ i. Ok (spelling i, next (with_name what i))
new_name_by what (Some before) = double_name

-- a name that isn't declared yet
unfoldable pub new_name : Declared → Parser (List ℕ)
new_name what = name_ahead >> (λ i. new_name_by what (declared i) i)

abbrev pub unit_by : Option Declared → Parser UnitId
unit_by (Some (declared_as_a.Unit u)) = take >> pure u
unit_by _ = unknown_name

-- the name of a unit
unfoldable pub unit : Parser UnitId
unit = name_ahead >> (λ i. unit_by (declared i) i)

abbrev pub event_by : Option Declared → Parser EventId
event_by (Some (declared_as_a.Event e)) = take >> pure e
event_by _ = unknown_name

-- the name of an event
unfoldable pub event : Parser EventId
event = name_ahead >> (λ i. event_by (declared i) i)

abbrev pub variable_by : Option Declared → Parser VarId
variable_by (Some (declared_as_a.Var x)) = take >> pure x
variable_by _ = unknown_name

-- the name of a variable
unfoldable pub variable : Parser VarId
variable = name_ahead >> (λ i. variable_by (declared i) i)

abbrev pub activity_by : Option Declared → Parser ActId
activity_by (Some (declared_as_a.Activity a)) = take >> pure a
activity_by _ = unknown_name

-- the name of an activity
unfoldable pub activity : Parser ActId
activity = name_ahead >> (λ i. activity_by (declared i) i)

abbrev pub state_by : Option Declared → Parser StateId
state_by (Some (declared_as_a.State s)) = take >> pure s
state_by _ = unknown_name

-- the name of a state
unfoldable pub state : Parser StateId
state = name_ahead >> (λ i. state_by (declared i) i)

-- ---- Ints, Texts and nodes

abbrev pub int_by : Option ℕ → Parser ℕ
int_by (Some n) = take >> pure n
int_by None = oversize

-- an Int of at most this
unfoldable pub int_up_to : ℕ → Parser ℕ
int_up_to most = λ i. if sees pieces.Int i then int_by (number_up_to most (spelling i)) i else syntax i

-- an Int
unfoldable pub int : Parser ℕ
int = int_up_to max_int

-- the Int behind the `-` of a literal
unfoldable pub negated_int : Parser ℕ
negated_int = int_up_to (max_int + 1)

abbrev pub text_by : Option (List ℕ) → Parser (List ℕ)
text_by (Some t) = take >> pure t
text_by None = oversize

-- a Text, as its characters
unfoldable pub text : Parser (List ℕ)
text = λ i. if sees pieces.Text i then text_by (short_text (spelling i)) i else syntax i

-- an expression begins
unfoldable pub without_nodes : Input → Input
without_nodes i = record i { nodes = 0 }

-- the next token makes a node, of which an expression has at most max_nodes
unfoldable pub node : Parser (Unit {0})
node = λ i. if nat_lt i.nodes max_nodes then Ok (tt, record i { nodes = i.nodes + 1 }) else oversize i

-- ---- declarations

-- the number that the next unit, event, variable, activity or state has
unfoldable pub next_unit : Input → UnitId
next_unit i = record { 0 = length i.units }

unfoldable pub next_event : Input → EventId
next_event i = record { 0 = length i.events }

unfoldable pub next_var : Input → VarId
next_var i = record { 0 = length i.vars }

unfoldable pub next_act : Input → ActId
next_act i = record { 0 = length i.acts }

unfoldable pub next_state : Input → StateId
next_state i = record { 0 = length i.states }

-- one unit, event, variable, activity or state more
unfoldable pub with_unit : List ℕ → Input → Input
with_unit name i = record i { units = i.units ++ name ∷ [] }

unfoldable pub with_event : Event → Input → Input
with_event event i = record i { events = i.events ++ event ∷ [] }

unfoldable pub with_var : Variable → Input → Input
with_var var i = record i { vars = i.vars ++ var ∷ [] }

unfoldable pub with_act : Activity → Input → Input
with_act act i = record i { acts = i.acts ++ act ∷ [] }

unfoldable pub with_state : State → Input → Input
with_state state i = record i { states = i.states ++ state ∷ [] }

-- each part that was declared took a token of its own, and there is one to spare
pub record HasRoom (i : Input) : Type 0 where
  pub units : length i.units < i.at
  pub events : length i.events ≤ i.at
  pub vars : length i.vars < i.at
  pub acts : length i.acts < i.at
  pub states : length i.states < i.at

-- the chart of all that was read
unfoldable pub chart_with : List ℕ → List Transition → Input → Chart
chart_with chart_name found i = record { name = chart_name; units = i.units; events = i.events; vars = i.vars; acts = i.acts; states = i.states; transitions = found }

-- ---- what a function of the reader ensures

-- the rule's outcome
abbrev pub ReadsExactly : {A : Type 0} → Outcome A → Result A TextFault → Input → Type 0
ReadsExactly outcome (Ok a) new = outcome ≡ Ok (a, new)
ReadsExactly outcome (Err e) new = outcome ≡ Err e

-- the rule's outcome, unless memory runs out
abbrev pub Reads : {A : Type 0} → Outcome A → Result A TextFault → Input → Type 0
Reads outcome (Ok a) new = outcome ≡ Ok (a, new)
Reads outcome (Err e) new = e ≢ NoMemory → outcome ≡ Err e
