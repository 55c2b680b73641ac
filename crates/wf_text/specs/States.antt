-- The rules of states: state = ( basic | or | and ) NAME at UNIT ( ; | "{" { state } "}" )
use Rattle.std.specs.Prelude.{ℕ, zero, suc, if◌then◌else◌, length, Option, Some, None}
use Rattle.wf_model.specs.Limits.{max_open}
use Rattle.wf_model.specs.declared.ids.StateId.{StateId}
use Rattle.wf_model.specs.declared.chart.Kind.{Kind}
use Rattle.wf_model.specs.declared.chart.Kind.TheVariants as kinds
use Rattle.wf_cursor.specs.declared.names.Declared.TheVariants as declared_as_a
use Rattle.wf_cursor.specs.declared.piece.Piece.{Piece}
use Rattle.wf_cursor.specs.declared.piece.Piece.TheVariants as pieces
use Rattle.wf_cursor.specs.Input.{Parser, ◌>>=◌, ◌>>◌, pure, peek, take, syntax, oversize, here, changed, piece, eat, expect, new_name, unit, next_state, with_state}

-- the kind that the word begins a state of
abbrev pub kind_of : Option Piece → Option Kind
kind_of (Some pieces.Basic) = Some kinds.Basic
kind_of (Some pieces.Or) = Some kinds.Or
kind_of (Some pieces.And) = Some kinds.And
kind_of _ = None

abbrev pub kind_by : Option Kind → Parser Kind
kind_by (Some k) = take >> pure k
kind_by None = syntax

-- basic | or | and
unfoldable pub kind : Parser Kind
kind = λ i. kind_by (kind_of (piece i)) i

-- ( basic | or | and ) NAME at UNIT: the state with this parent
unfoldable pub head : Option StateId → Parser StateId
head parent = do
  k ← kind
  id ← here next_state
  name ← new_name (declared_as_a.State id)
  expect pieces.At
  u ← unit
  changed (with_state (record { name = name; kind = k; parent = parent; unit = u }))
  pure id

-- { child } "}": each turn takes a token, so the count of tokens is enough
unfoldable pub children_from : Parser (Unit {0}) → ℕ → Parser (Unit {0})
children_from child zero = syntax
children_from child (suc n) = do
  closed ← eat pieces.CloseBrace
  if closed then pure tt else child >> children_from child n

unfoldable pub children : Parser (Unit {0}) → Parser (Unit {0})
children child = λ i. children_from child (length i.left) i

abbrev pub body_by : Parser (Unit {0}) → Option Piece → Parser (Unit {0})
body_by nested (Some pieces.Semicolon) = take
body_by nested (Some pieces.OpenBrace) = nested
body_by nested _ = syntax

-- ( basic | or | and ) NAME at UNIT ( ; | "{" .. ), where the parameter reads from the brace on
unfoldable pub state_with : (StateId → Parser (Unit {0})) → Option StateId → Parser (Unit {0})
state_with nested parent = do
  id ← head parent
  ahead ← peek
  body_by (nested id) ahead

-- "{" { state } "}": this brace and those under it are at most so many
unfoldable pub block : ℕ → StateId → Parser (Unit {0})
block zero id = oversize
block (suc depth) id = take >> children (state_with (block depth) (Some id))

-- a state, under which so many braces may open
abbrev pub state : ℕ → Option StateId → Parser (Unit {0})
state depth parent = state_with (block depth) parent

abbrev pub root_by : Option Kind → Parser (Unit {0})
root_by (Some k) = state max_open None
root_by None = pure tt

-- [ state ]
unfoldable pub root : Parser (Unit {0})
root = λ i. root_by (kind_of (piece i)) i
