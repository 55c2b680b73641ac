-- A text as blanks and tokens, one behind the other.
use Rattle.std.specs.Prelude.{◌≡◌, ℕ, ◌++◌, ◌==◌, Bool, false, ◌&&◌, List, [], ◌∷◌, flat_map, slice_index, IsTrue}
use Rattle.std.specs.List.{list_all}
use Rattle.wf_model.specs.Names.{is_digit, is_word_char}
use Rattle.wf_lex.specs.declared.token.TokenKind.{TokenKind}
use Rattle.wf_lex.specs.declared.token.TokenKind.TheVariants as kinds
use Rattle.wf_lex.specs.Lex.{is_blank, may_join}
use Rattle.wf_lex.specs.Slices.{IsToken}
use Rattle.wf_cursor.specs.Pieces.{piece_of}
use Rattle.wf_grammar.specs.Lexemes.{Lexeme}

-- a stretch of a text: blanks, or a token of this kind
pub data Span : Type 0 where
  gap : List ℕ → Span
  token : TokenKind → List ℕ → Span

abbrev pub bytes_of : Span → List ℕ
bytes_of (Span.gap bytes) = bytes
bytes_of (Span.token kind bytes) = bytes

-- the text
abbrev pub written : List Span → List ℕ
written spans = flat_map bytes_of spans

abbrev pub lexeme : TokenKind → List ℕ → Lexeme
lexeme kind bytes = record { piece = piece_of kind bytes; bytes = bytes }

-- its tokens as the grammar sees them
abbrev pub lexemes_of : List Span → List Lexeme
lexemes_of [] = []
lexemes_of (Span.gap bytes ∷ spans) = lexemes_of spans
lexemes_of (Span.token kind bytes ∷ spans) = lexeme kind bytes ∷ lexemes_of spans

-- with this byte behind them, these bytes may be the beginning of a longer token of this kind
abbrev pub goes_on : TokenKind → List ℕ → ℕ → Bool
goes_on kinds.Word bytes b = is_word_char b
goes_on kinds.Int bytes b = is_digit b
goes_on kinds.Text bytes b = false
goes_on kinds.Sign bytes b = may_join (slice_index bytes 0) && b == 61

-- Before this rest of a text, the spans are blanks, and tokens that end where the next span begins.
abbrev pub AreApart : List Span → List ℕ → Type 0
AreApart [] rest = Unit {0}
AreApart (Span.gap bytes ∷ spans) rest = IsTrue (list_all is_blank bytes) × AreApart spans rest
AreApart (Span.token kind bytes ∷ spans) rest =
    IsToken kind bytes [] × (goes_on kind bytes (slice_index (written spans ++ rest) 0) ≡ false) × AreApart spans rest
