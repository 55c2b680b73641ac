-- Of the laws. Tokens as the grammar sees them.
use Rattle.std.specs.Prelude.{ℕ, List, map, slice_range}
use Rattle.wf_lex.specs.declared.token.Token.{Token}
use Rattle.wf_cursor.specs.declared.piece.Piece.{Piece}
use Rattle.wf_cursor.specs.Pieces.{piece_of}
use Rattle.wf_cursor.specs.Input.{Input}

-- a token: what it is to the grammar, and its bytes
pub record Lexeme : Type 0 where
  pub piece : Piece
  pub bytes : List ℕ

-- the token of this text
abbrev pub lexeme_of : List ℕ → Token → Lexeme
lexeme_of text t = record { piece = piece_of t.kind (slice_range text t.start t.end); bytes = slice_range text t.start t.end }

-- what an input has left
abbrev pub lexemes : Input → List Lexeme
lexemes i = map (lexeme_of i.text) i.left
