-- The tokens of a text, or its first fault.
use Rattle.std.specs.Prelude.{ℕ, zero, suc, ◌+◌, ◌-◌, Bool, true, false, not, ◌&&◌, ◌||◌, ◌==◌, if◌then◌else◌, List, [], ◌∷◌, ◌++◌, length, take_while, slice_index, Option, Some, None, Result, Ok, Err}
use Rattle.wf_model.specs.Limits.{max_tokens}
use Rattle.wf_model.specs.Names.{is_letter, is_digit, is_word_char}
use Rattle.wf_model.specs.Txt.{is_text_char}
use Rattle.wf_lex.specs.declared.token.TokenKind.{TokenKind}
use Rattle.wf_lex.specs.declared.token.TokenKind.TheVariants as kinds
use Rattle.wf_lex.specs.declared.token.Token.{Token}
use Rattle.wf_lex.specs.declared.token.LexFault.{LexFault}
use Rattle.wf_lex.specs.declared.token.LexFault.TheVariants.{BadByte, TooManyTokens}

-- space, tab, CR and LF
abbrev pub is_blank : ℕ → Bool
is_blank b = b == 32 || (b == 9 || (b == 13 || b == 10))

-- `;` `,` `{` `}` `(` `)` `=` `+` `-` `*` `/` `%`
abbrev pub is_alone : ℕ → Bool
is_alone b = b == 59 || (b == 44 || (b == 123 || (b == 125 || (b == 40 || (b == 41 || (b == 61 || (b == 43 || (b == 45 || (b == 42 || (b == 47 || b == 37))))))))))

-- `:` `<` `>`, which stand alone or before `=`
abbrev pub may_join : ℕ → Bool
may_join b = b == 58 || (b == 60 || b == 62)

-- how many bytes of a sign follow its first one; `!` stands before `=` alone
abbrev pub sign_rest : ℕ → List ℕ → Option ℕ
sign_rest b bs =
    if is_alone b then Some 0
    else (if may_join b then Some (if slice_index bs 0 == 61 then 1 else 0)
    else (if b == 33 && slice_index bs 0 == 61 then Some 1 else None))

-- how many bytes of a text follow its opening quote: text characters and the closing quote
abbrev pub text_rest : List ℕ → Option ℕ
text_rest bs = if slice_index bs (length (take_while is_text_char bs)) == 34 then Some (length (take_while is_text_char bs) + 1) else None

abbrev pub with_kind : TokenKind → Option ℕ → Option (TokenKind × ℕ)
with_kind kind None = None
with_kind kind (Some n) = Some (kind, n)

-- the kind of the token that begins with this byte, and how many of the bytes behind it are its own
unfoldable pub token_at : ℕ → List ℕ → Option (TokenKind × ℕ)
token_at b bs =
    if is_letter b then Some (kinds.Word, length (take_while is_word_char bs))
    else (if is_digit b then Some (kinds.Int, length (take_while is_digit bs))
    else (if b == 34 then with_kind kinds.Text (text_rest bs)
    else with_kind kinds.Sign (sign_rest b bs)))

-- where the rest begins, in a text of this length
abbrev pub place : ℕ → List ℕ → ℕ
place len rest = len - length rest

-- the tokens before others, whose fault stays
abbrev pub with_first : List Token → Result (List Token) LexFault → Result (List Token) LexFault
with_first found (Ok more) = Ok (found ++ more)
with_first found (Err e) = Err e

-- one token and more behind it, or the fault where none begins or where there are too many
abbrev pub lex_token : (most len count : ℕ) → ℕ → List ℕ → Option (TokenKind × ℕ) → (ℕ → Result (List Token) LexFault) → Result (List Token) LexFault
lex_token most len count b bs None more = Err (BadByte (place len (b ∷ bs)))
lex_token most len count b bs (Some t) more =
    if count == most then Err (TooManyTokens (place len (b ∷ bs)))
    else with_first (record { kind = t.0; start = place len (b ∷ bs); end = place len (b ∷ bs) + 1 + t.1 } ∷ []) (more t.1)

-- The tokens, of which there may be so many, of a text of length len from here on: after so many tokens, with so many bytes left of
-- the token that was begun, inside a comment or not, the bytes that follow. A comment begins with `#` and ends with LF.
abbrev pub lex : (most len count inside : ℕ) → Bool → List ℕ → Result (List Token) LexFault
lex most len count inside comment [] = Ok []
lex most len count (suc n) comment (b ∷ bs) = lex most len count n comment bs
lex most len count zero true (b ∷ bs) = lex most len count zero (not (b == 10)) bs
lex most len count zero false (b ∷ bs) =
    if is_blank b then lex most len count zero false bs
    else (if b == 35 then lex most len count zero true bs
    else lex_token most len count b bs (token_at b bs) (λ n. lex most len (count + 1) n false bs))

-- the tokens of a text, or its first fault, where it may have so many
unfoldable pub tokens_up_to : ℕ → List ℕ → Result (List Token) LexFault
tokens_up_to most text = lex most (length text) 0 0 false text

-- the tokens of a chart's text, or its first fault
unfoldable pub tokens_of : List ℕ → Result (List Token) LexFault
tokens_of text = lex max_tokens (length text) 0 0 false text

-- the tokens of a line, or its first fault. It may have as many as it has bytes, and so never has too many
unfoldable pub line_tokens_of : List ℕ → Result (List Token) LexFault
line_tokens_of line = lex (length line) (length line) 0 0 false line
