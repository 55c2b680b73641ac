-- Of other calls. Where the reader of a literal stands at a fault.
use Rattle.std.specs.Prelude.{Option, Some}
use Rattle.wf_cursor.specs.declared.piece.Piece.{Piece}
use Rattle.wf_cursor.specs.declared.piece.Piece.TheVariants as pieces
use Rattle.wf_cursor.specs.Input.{Input, next, piece}

abbrev pub behind_minus_by : Option Piece → Input → Input
behind_minus_by (Some pieces.Minus) i = next i
behind_minus_by _ i = i

-- behind the next token if it is `-`, and else before it
abbrev pub behind_minus : Input → Input
behind_minus i = behind_minus_by (piece i) i
