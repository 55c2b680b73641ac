-- The operators that each rule of expressions goes on with.
use Rattle.std.specs.Prelude.{Option, Some, None}
use Rattle.wf_model.specs.declared.expr.Op.{Op}
use Rattle.wf_model.specs.declared.expr.Op.TheVariants as op
use Rattle.wf_cursor.specs.declared.piece.Piece.{Piece}
use Rattle.wf_cursor.specs.declared.piece.Piece.TheVariants as piece

-- or
unfoldable pub or_operator : Option Piece → Option Op
or_operator (Some piece.Or) = Some op.Or
or_operator _ = None

-- and
unfoldable pub and_operator : Option Piece → Option Op
and_operator (Some piece.And) = Some op.And
and_operator _ = None

-- = | != | < | <= | > | >=
unfoldable pub comparison : Option Piece → Option Op
comparison (Some piece.Equal) = Some op.Eq
comparison (Some piece.NotEqual) = Some op.Ne
comparison (Some piece.Less) = Some op.Lt
comparison (Some piece.AtMost) = Some op.Le
comparison (Some piece.Greater) = Some op.Gt
comparison (Some piece.AtLeast) = Some op.Ge
comparison _ = None

-- + | -
unfoldable pub sum_operator : Option Piece → Option Op
sum_operator (Some piece.Plus) = Some op.Add
sum_operator (Some piece.Minus) = Some op.Sub
sum_operator _ = None

-- * | / | %
unfoldable pub product_operator : Option Piece → Option Op
product_operator (Some piece.Star) = Some op.Mul
product_operator (Some piece.Slash) = Some op.Div
product_operator (Some piece.Percent) = Some op.Rem
product_operator _ = None
