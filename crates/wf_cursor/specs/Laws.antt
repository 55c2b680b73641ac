-- Of the laws. Which words are names to the grammar.
use Rattle.std.specs.Prelude.{◌≡◌, ℕ, not, List}
use Rattle.wf_model.specs.Names.{is_reserved}
use Rattle.wf_cursor.specs.declared.piece.Piece.TheVariants as pieces
use Rattle.wf_cursor.specs.Pieces.{same_piece, word_piece}

-- a word is a name to the grammar exactly where it isn't one of the language's own
abbrev pub NamesAreNotReserved : Type 0
NamesAreNotReserved = (w : List ℕ) → same_piece (word_piece w) pieces.Name ≡ not (is_reserved w)
