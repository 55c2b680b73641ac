-- Of the laws. Lists of pieces, and how lines of a grammar are put together of them.
use Rattle.std.specs.Prelude.{◌≡◌, List, [], ◌∷◌, ◌++◌, Option, Some, None}
use Rattle.wf_cursor.specs.declared.piece.Piece.{Piece}

-- the lists of pieces that a line of the grammar allows
abbrev pub Shape : Type 1
Shape = List Piece → Type 0

-- the piece that comes first, if there is one
abbrev pub first : List Piece → Option Piece
first [] = None
first (p ∷ ps) = Some p

-- this piece alone
pub data One (p : Piece) : List Piece → Type 0 where
  one : One p (p ∷ [])

-- the one, then the other
pub record Then (L M : List Piece → Type 0) (ps : List Piece) : Type 0 where
  pub front : List Piece
  pub back : List Piece
  pub whole : ps ≡ front ++ back
  pub is_front : L front
  pub is_back : M back

infixr 20 ◌·◌
abbrev pub ◌·◌ : Shape → Shape → Shape
L · M = Then L M

-- it, or nothing
pub data Maybe (L : List Piece → Type 0) : List Piece → Type 0 where
  nothing : Maybe L []
  something : {ps : List Piece} → L ps → Maybe L ps

-- any number of them
pub data Many (L : List Piece → Type 0) : List Piece → Type 0 where
  none : Many L []
  more : {us vs : List Piece} → L us → Many L vs → Many L (us ++ vs)
