-- What the words and signs of a canonical text are to the grammar.
use Rattle.std.proofs.Common.{ℕ, List, Some, refl}
use lib.Chars.{codes}
use Rattle.wf_model.specs.declared.expr.Op.TheVariants as o
use Rattle.wf_lex.specs.declared.token.TokenKind.TheVariants as kinds
use Rattle.wf_cursor.specs.declared.piece.Piece.TheVariants as pieces
use Rattle.wf_cursor.specs.Pieces.{piece_of, word_piece, state_word, moving_word, sign_piece}
use Rattle.wf_grammar.specs.Lexemes.{Lexeme}
use Rattle.wf_grammar.specs.Phrases.{Is}
use Rattle.wf_grammar.specs.Laws.{IsNoOperator}
use Rattle.wf_readback.proofs.Spans.{lexeme}

abbrev pub word_lexeme : List ℕ → Lexeme
word_lexeme bytes = lexeme kinds.Word bytes

abbrev pub sign_lexeme : List ℕ → Lexeme
sign_lexeme bytes = lexeme kinds.Sign bytes

pub from_is : Is pieces.From (word_lexeme (codes "from"))
unfolding piece_of word_piece state_word moving_word
from_is = refl

pub to_is : Is pieces.To (word_lexeme (codes "to"))
unfolding piece_of word_piece state_word moving_word
to_is = refl

pub on_is : Is pieces.On (word_lexeme (codes "on"))
unfolding piece_of word_piece state_word moving_word
on_is = refl

pub if_is : Is pieces.If (word_lexeme (codes "if"))
unfolding piece_of word_piece state_word moving_word
if_is = refl

pub do_is : Is pieces.Do (word_lexeme (codes "do"))
unfolding piece_of word_piece state_word moving_word
do_is = refl

pub raise_is : Is pieces.Raise (word_lexeme (codes "raise"))
unfolding piece_of word_piece state_word moving_word
raise_is = refl

pub start_is : Is pieces.Start (word_lexeme (codes "start"))
unfolding piece_of word_piece state_word moving_word
start_is = refl

pub semicolon_is : Is pieces.Semicolon (sign_lexeme (codes ";"))
unfolding piece_of sign_piece
semicolon_is = refl

pub comma_is : Is pieces.Comma (sign_lexeme (codes ","))
unfolding piece_of sign_piece
comma_is = refl

pub assign_is : Is pieces.Assign (sign_lexeme (codes ":="))
unfolding piece_of sign_piece
assign_is = refl

-- ---- none of these is an operator

pub no_operator_do : IsNoOperator (Some pieces.Do)
no_operator_do o.Or h = cc
no_operator_do _ h = cc

pub no_operator_semicolon : IsNoOperator (Some pieces.Semicolon)
no_operator_semicolon o.Or h = cc
no_operator_semicolon _ h = cc

pub no_operator_comma : IsNoOperator (Some pieces.Comma)
no_operator_comma o.Or h = cc
no_operator_comma _ h = cc
