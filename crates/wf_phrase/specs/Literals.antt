-- The literals of a chart's text: literal = true | false | [ - ] INT | TEXT
use Rattle.std.specs.Prelude.{true, false, Option, Some, None, pos, neg_ℤ}
use Rattle.wf_model.specs.declared.value.Sort.{Sort}
use Rattle.wf_model.specs.declared.value.Sort.TheVariants as sorts
use Rattle.wf_model.specs.declared.value.Val.{Val}
use Rattle.wf_model.specs.declared.value.Val.TheVariants as v
use Rattle.wf_cursor.specs.declared.piece.Piece.{Piece}
use Rattle.wf_cursor.specs.declared.piece.Piece.TheVariants as pieces
use Rattle.wf_cursor.specs.Input as input
use Rattle.wf_cursor.specs.Input.{Parser, ◌>>=◌, ◌>>◌, pure, take, syntax, piece}

-- INT
unfoldable pub number : Parser Val
number = do
  n ← input.int
  pure (v.Int (pos n))

-- - INT
unfoldable pub negative_number : Parser Val
negative_number = do
  take
  n ← input.negated_int
  pure (v.Int (neg_ℤ (pos n)))

-- TEXT
unfoldable pub characters : Parser Val
characters = do
  t ← input.text
  pure (v.Text t)

abbrev pub literal_by : Option Piece → Parser Val
literal_by (Some pieces.True) = take >> pure (v.Bool true)
literal_by (Some pieces.False) = take >> pure (v.Bool false)
literal_by (Some pieces.Int) = number
literal_by (Some pieces.Minus) = negative_number
literal_by (Some pieces.Text) = characters
literal_by _ = syntax

-- a literal
unfoldable pub literal : Parser Val
literal = λ i. literal_by (piece i) i

-- the sort that the word names
abbrev pub sort_named : Option Piece → Option Sort
sort_named (Some pieces.BoolSort) = Some sorts.Bool
sort_named (Some pieces.IntSort) = Some sorts.Int
sort_named (Some pieces.TextSort) = Some sorts.Text
sort_named _ = None

abbrev pub sort_by : Option Sort → Parser Sort
sort_by (Some s) = take >> pure s
sort_by None = syntax

-- bool | int | text
unfoldable pub sort : Parser Sort
sort = λ i. sort_by (sort_named (piece i)) i
