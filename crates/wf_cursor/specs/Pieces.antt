-- What a token is to the grammar.
use Rattle.std.specs.Prelude.{ℕ, Bool, if◌then◌else◌, List}
use Rattle.std.specs.Str.{bytes_eq}
use lib.Chars.{codes}
use denote.Enum.Bare.{sameb}
use Rattle.wf_lex.specs.declared.token.TokenKind.{TokenKind}
use Rattle.wf_lex.specs.declared.token.TokenKind.TheVariants as kinds
use Rattle.wf_cursor.specs.contracts.piece.Piece.{the_type}
use Rattle.wf_cursor.specs.declared.piece.Piece.{Piece}
use Rattle.wf_cursor.specs.declared.piece.Piece.TheVariants as piece

-- `==` on pieces
unfoldable pub same_piece : Piece → Piece → Bool
same_piece = sameb the_type

-- the words of sorts; a word that isn't reserved is a name
unfoldable pub sort_word : List ℕ → Piece
sort_word w =
    if bytes_eq w (codes "bool") then piece.BoolSort
    else (if bytes_eq w (codes "int") then piece.IntSort
    else (if bytes_eq w (codes "text") then piece.TextSort
    else piece.Name))

-- the words of values
unfoldable pub value_word : List ℕ → Piece
value_word w =
    if bytes_eq w (codes "true") then piece.True
    else (if bytes_eq w (codes "false") then piece.False
    else (if bytes_eq w (codes "not") then piece.Not
    else (if bytes_eq w (codes "in") then piece.In
    else (if bytes_eq w (codes "count") then piece.Count
    else (if bytes_eq w (codes "done") then piece.Done
    else sort_word w)))))

-- the words of transitions
unfoldable pub moving_word : List ℕ → Piece
moving_word w =
    if bytes_eq w (codes "from") then piece.From
    else (if bytes_eq w (codes "to") then piece.To
    else (if bytes_eq w (codes "on") then piece.On
    else (if bytes_eq w (codes "if") then piece.If
    else (if bytes_eq w (codes "do") then piece.Do
    else (if bytes_eq w (codes "raise") then piece.Raise
    else (if bytes_eq w (codes "start") then piece.Start
    else value_word w))))))

-- the words of states
unfoldable pub state_word : List ℕ → Piece
state_word w =
    if bytes_eq w (codes "basic") then piece.Basic
    else (if bytes_eq w (codes "or") then piece.Or
    else (if bytes_eq w (codes "and") then piece.And
    else moving_word w))

-- the words that declare
unfoldable pub word_piece : List ℕ → Piece
word_piece w =
    if bytes_eq w (codes "chart") then piece.Chart
    else (if bytes_eq w (codes "unit") then piece.Unit
    else (if bytes_eq w (codes "event") then piece.Event
    else (if bytes_eq w (codes "var") then piece.Var
    else (if bytes_eq w (codes "activity") then piece.Activity
    else (if bytes_eq w (codes "at") then piece.At
    else (if bytes_eq w (codes "gives") then piece.Gives
    else state_word w))))))

-- the signs that reckon
unfoldable pub reckoning_sign : List ℕ → Piece
reckoning_sign s =
    if bytes_eq s (codes "+") then piece.Plus
    else (if bytes_eq s (codes "-") then piece.Minus
    else (if bytes_eq s (codes "*") then piece.Star
    else (if bytes_eq s (codes "/") then piece.Slash
    else (if bytes_eq s (codes "%") then piece.Percent
    else piece.OtherSign))))

-- the signs that compare
unfoldable pub comparing_sign : List ℕ → Piece
comparing_sign s =
    if bytes_eq s (codes "=") then piece.Equal
    else (if bytes_eq s (codes "!=") then piece.NotEqual
    else (if bytes_eq s (codes "<") then piece.Less
    else (if bytes_eq s (codes "<=") then piece.AtMost
    else (if bytes_eq s (codes ">") then piece.Greater
    else (if bytes_eq s (codes ">=") then piece.AtLeast
    else reckoning_sign s)))))

-- the signs that part
unfoldable pub sign_piece : List ℕ → Piece
sign_piece s =
    if bytes_eq s (codes ";") then piece.Semicolon
    else (if bytes_eq s (codes ":") then piece.Colon
    else (if bytes_eq s (codes ",") then piece.Comma
    else (if bytes_eq s (codes "{") then piece.OpenBrace
    else (if bytes_eq s (codes "}") then piece.CloseBrace
    else (if bytes_eq s (codes "(") then piece.OpenParen
    else (if bytes_eq s (codes ")") then piece.CloseParen
    else (if bytes_eq s (codes ":=") then piece.Assign
    else comparing_sign s)))))))

-- what a token of this kind and with these bytes is
unfoldable pub piece_of : TokenKind → List ℕ → Piece
piece_of kinds.Word bytes = word_piece bytes
piece_of kinds.Int bytes = piece.Int
piece_of kinds.Text bytes = piece.Text
piece_of kinds.Sign bytes = sign_piece bytes
