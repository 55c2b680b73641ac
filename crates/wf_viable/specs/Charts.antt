-- Of the laws. The grammar of charts over pieces alone.
-- Any name stands for any name, whatever is declared, and sizes are free.
use Rattle.std.specs.Prelude.{List, [], ◌∷◌, ◌++◌}
use Rattle.wf_cursor.specs.declared.piece.Piece.{Piece}
use Rattle.wf_cursor.specs.declared.piece.Piece.TheVariants as pieces
use Rattle.wf_grammar.specs.Drawing.{Part}
use Rattle.wf_viable.specs.Shapes.{Shape, One, Maybe, Many, ◌·◌}
use Rattle.wf_viable.specs.Expressions.{Line, Phrase}

-- expr
abbrev pub Expr : Shape
Expr = Phrase Line.expr

-- ---- declarations

-- literal = true | false | INT | - INT | TEXT
pub data Literal : List Piece → Type 0 where
  literal_true : Literal (pieces.True ∷ [])
  literal_false : Literal (pieces.False ∷ [])
  literal_int : Literal (pieces.Int ∷ [])
  literal_minus : Literal (pieces.Minus ∷ pieces.Int ∷ [])
  literal_text : Literal (pieces.Text ∷ [])

-- SORT = bool | int | text
pub data Sort : List Piece → Type 0 where
  sort_bool : Sort (pieces.BoolSort ∷ [])
  sort_int : Sort (pieces.IntSort ∷ [])
  sort_text : Sort (pieces.TextSort ∷ [])

-- NAME { , NAME }
abbrev pub Names : Shape
Names = One pieces.Name · Many (One pieces.Comma · One pieces.Name)

-- decl = unit NAME ; | event NAME [ at NAME ] ; | var NAME : SORT = literal ; | activity NAME at NAME [ gives NAME { , NAME } ] ;
pub data Declaration : List Piece → Type 0 where
  unit : {ps : List Piece} → (One pieces.Unit · One pieces.Name · One pieces.Semicolon) ps → Declaration ps
  event : {ps : List Piece} → (One pieces.Event · One pieces.Name · Maybe (One pieces.At · One pieces.Name) · One pieces.Semicolon) ps → Declaration ps
  variable : {ps : List Piece} → (One pieces.Var · One pieces.Name · One pieces.Colon · Sort · One pieces.Equal · Literal · One pieces.Semicolon) ps → Declaration ps
  activity : {ps : List Piece} → (One pieces.Activity · One pieces.Name · One pieces.At · One pieces.Name · Maybe (One pieces.Gives · Names) · One pieces.Semicolon) ps → Declaration ps

-- ---- states

-- basic | or | and
pub data Kind : List Piece → Type 0 where
  kind_basic : Kind (pieces.Basic ∷ [])
  kind_or : Kind (pieces.Or ∷ [])
  kind_and : Kind (pieces.And ∷ [])

-- ( basic | or | and ) NAME at NAME
abbrev pub Head : Shape
Head = Kind · One pieces.Name · One pieces.At · One pieces.Name

-- the pieces that are this part of the tree of states
pub data Drawn : Part → List Piece → Type 0 where
  -- state = ( basic | or | and ) NAME at NAME body
  state : {us vs : List Piece} → Head us → Drawn Part.body vs → Drawn Part.state (us ++ vs)
  -- body = ; | "{" { state } "}"
  body_ends : Drawn Part.body (pieces.Semicolon ∷ [])
  body_opens : {us : List Piece} → Drawn Part.states us → Drawn Part.body (pieces.OpenBrace ∷ (us ++ pieces.CloseBrace ∷ []))
  -- { state }
  no_state : Drawn Part.states []
  more_states : {us vs : List Piece} → Drawn Part.state us → Drawn Part.states vs → Drawn Part.states (us ++ vs)

-- ---- transitions

-- action = NAME := expr | raise NAME | start NAME
pub data Action : List Piece → Type 0 where
  assigns : {ps : List Piece} → (One pieces.Name · One pieces.Assign · Expr) ps → Action ps
  raises : {ps : List Piece} → (One pieces.Raise · One pieces.Name) ps → Action ps
  starts : {ps : List Piece} → (One pieces.Start · One pieces.Name) ps → Action ps

-- action { , action }
abbrev pub Actions : Shape
Actions = Action · Many (One pieces.Comma · Action)

-- trans = from NAME to NAME [ on NAME ] [ if expr ] [ do action { , action } ] ;
abbrev pub Transition : Shape
Transition =
    One pieces.From · One pieces.Name · One pieces.To · One pieces.Name
    · Maybe (One pieces.On · One pieces.Name) · Maybe (One pieces.If · Expr) · Maybe (One pieces.Do · Actions) · One pieces.Semicolon

-- ---- charts

-- chart = chart NAME ; { decl } [ state ] { trans }
abbrev pub Chart : Shape
Chart = One pieces.Chart · One pieces.Name · One pieces.Semicolon · Many Declaration · Maybe (Drawn Part.state) · Many Transition
