-- A line never has too many tokens.
use Rattle.std.proofs.Common.{◌≡◌, ◌≤◌, ℕ, zero, suc, ◌+◌, ◌==◌, not, Bool, true, false, List, [], ◌∷◌, length, Option, Some, None, Result, Ok, Err, refl, arith, inl, inr}
use Rattle.std.proofs.lemmas.Bool.{cases_Bool}
use Rattle.std.proofs.lemmas.Bool.Decides.{nat_tests}
use Rattle.wf_lex.specs.declared.token.TokenKind.{TokenKind}
use Rattle.wf_lex.specs.declared.token.Token.{Token}
use Rattle.wf_lex.specs.declared.token.LexFault.{LexFault}
use Rattle.wf_lex.specs.declared.token.LexFault.TheVariants.{BadByte, TooManyTokens}
use Rattle.wf_lex.specs.Lex.{lex, lex_token, with_first, place, is_blank, token_at, line_tokens_of}

-- tokens at the front leave a fault as it is
fault_stays : (found : List Token) (r : Result (List Token) LexFault) (at : ℕ) → with_first found r ≡ Err (TooManyTokens at) → r ≡ Err (TooManyTokens at)
fault_stays found (Ok more) at e = cc e
fault_stays found (Err fault) at e = e

-- where fewer tokens came than there may be, the next isn't one too many
one_more : (most len count b : ℕ) (bs : List ℕ) (found : Option (TokenKind × ℕ)) (at : ℕ) → suc count ≤ most
    → ((n : ℕ) → lex most len (count + 1) n false bs ≡ Err (TooManyTokens at) → ⊥)
    → lex_token most len count b bs found (λ n. lex most len (count + 1) n false bs) ≡ Err (TooManyTokens at) → ⊥
one_more most len count b bs None at room behind e = cc e
one_more most len count b bs (Some (kind, n)) at room behind e =
    let few : (count == most) ≡ false = grind (arith, nat_tests) in
    behind n (fault_stays (record { kind = kind; start = place len (b ∷ bs); end = place len (b ∷ bs) + 1 + n } ∷ []) (lex most len (count + 1) n false bs) at (rw few at e))

-- where each byte that follows may begin a token, there are never too many
enough : (most len count n : ℕ) (comment : Bool) (bs : List ℕ) (at : ℕ) → count + length bs ≤ most → lex most len count n comment bs ≡ Err (TooManyTokens at) → ⊥
enough most len count zero comment [] at room e = cc e
enough most len count (suc n) comment [] at room e = cc e
enough most len count (suc n) comment (b ∷ bs) at room e = enough most len count n comment bs at (omega (arith, room)) e
enough most len count zero true (b ∷ bs) at room e = enough most len count zero (not (b == 10)) bs at (omega (arith, room)) e
enough most len count zero false (b ∷ bs) at room e =
    elim (cases_Bool (is_blank b)) [
      | inl blank ↦ enough most len count zero false bs at (omega (arith, room)) (rw blank at e)
      | inr ink ↦ elim (cases_Bool (b == 35)) [
        | inl hash ↦ enough most len count zero true bs at (omega (arith, room)) (rw (ink, hash) at e)
        | inr no_hash ↦ one_more most len count b bs (token_at b bs) at (omega (arith, room))
            (λ n f. enough most len (count + 1) n false bs at (omega (arith, room)) f) (rw (ink, no_hash) at e)
      ]
    ]

pub line_has_no_limit : (line : List ℕ) (at : ℕ) → line_tokens_of line ≡ Err (TooManyTokens at) → ⊥
unfolding line_tokens_of
line_has_no_limit line at e = enough (length line) (length line) 0 0 false line at (omega arith) e
