-- One token more.
use Rattle.std.proofs.Common.{◌≡◌, ◌≢◌, ℕ, zero, suc, ◌+◌, ◌<◌, false, ◌==◌, List, [], ◌∷◌, ◌++◌, length, drop, get_or, Some, Result, Ok, Err, refl, sym, ◌∙◌, ap, arith, append_assoc}
use Rattle.std.proofs.lemmas.List.{drop_more, drop-drop, length-drop}
use Rattle.std.proofs.lemmas.Bool.Decides.{nat_tests}
use Rattle.wf_lex.specs.declared.token.TokenKind.{TokenKind}
use Rattle.wf_lex.specs.declared.token.Token.{Token}
use Rattle.wf_lex.specs.declared.token.LexFault.{LexFault}
use Rattle.wf_lex.specs.Lex.{lex, with_first, place, is_blank, token_at}

-- the bytes of a token that was begun are passed over
pub lex_inside : (most len count n : ℕ) (bs : List ℕ) → lex most len count n false bs ≡ lex most len count 0 false (drop n bs)
lex_inside most len count zero [] = refl
lex_inside most len count (suc n) [] = refl
lex_inside most len count zero (b ∷ bs) = refl
lex_inside most len count (suc n) (b ∷ bs) = lex_inside most len count n bs

pub with_first-append : (xs ys : List Token) (r : Result (List Token) LexFault) → with_first (xs ++ ys) r ≡ with_first xs (with_first ys r)
with_first-append xs ys (Ok more) = ap Ok (append_assoc xs ys more)
with_first-append xs ys (Err e) = refl

-- a token at the front
pub lex-token : (most len count b rest : ℕ) (bs : List ℕ) (kind : TokenKind) → is_blank b ≡ false → (b == 35) ≡ false → token_at b bs ≡ Some (kind, rest) → (count == most) ≡ false
    → lex most len count 0 false (b ∷ bs) ≡ with_first (record { kind = kind; start = place len (b ∷ bs); end = place len (b ∷ bs) + 1 + rest } ∷ []) (lex most len (count + 1) 0 false (drop rest bs))
lex-token most len count b rest bs kind blank hash token few =
    rw (blank, hash, token, few, lex_inside most len (count + 1) rest bs) refl

-- and in the text
pub token_step : (most at rest : ℕ) (text : List ℕ) (found : List Token) (kind : TokenKind) (d : ℕ) → at < length text → is_blank (get_or text at d) ≡ false → get_or text at d ≢ 35
    → token_at (get_or text at d) (drop (at + 1) text) ≡ Some (kind, rest) → length found ≢ most
    → with_first (found ++ record { kind = kind; start = at; end = at + 1 + rest } ∷ []) (lex most (length text) (length found + 1) 0 false (drop (at + 1 + rest) text))
    ≡ with_first found (lex most (length text) (length found) 0 false (drop at text))
token_step most at rest text found kind d within blank hash token few =
    let no_hash : (get_or text at d == 35) ≡ false = grind (arith, nat_tests) in
    let not_full : (length found == most) ≡ false = grind (arith, nat_tests) in
    let here : place (length text) (get_or text at d ∷ drop (at + 1) text) ≡ at = omega (arith, length-drop (at + 1) text) in
    with_first-append found (record { kind = kind; start = at; end = at + 1 + rest } ∷ []) (lex most (length text) (length found + 1) 0 false (drop (at + 1 + rest) text))
    ∙ ap (with_first found) (sym (
    rw (drop_more text at d within)
    (lex-token most (length text) (length found) (get_or text at d) rest (drop (at + 1) text) kind blank no_hash token not_full
    ∙ rw (here, drop-drop) refl)))
