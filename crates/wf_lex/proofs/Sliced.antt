-- The tokens of a text are its slices.
use Rattle.std.proofs.Common.{◌≡◌, ℕ, zero, suc, ◌+◌, ◌<◌, ◌≤◌, Bool, true, false, not, ◌==◌, List, [], ◌∷◌, ◌++◌, length, take, drop, get_or, Option, Some, None, Result, Ok, Err, refl, sym, ◌∙◌, ap, subst, arith, inl, inr}
use Rattle.std.specs.List.{take_while}
use Rattle.std.proofs.lemmas.Bool.{cases_Bool}
use Rattle.std.proofs.lemmas.List.Sums.{take_while-cons}
use Rattle.std.proofs.lemmas.List.{length-take-le, take-append-drop}
use Rattle.std.proofs.lemmas.Bool.Decides.{nat_tests}
use Rattle.wf_model.specs.Limits.{max_tokens}
use Rattle.wf_model.specs.Names.{is_letter, is_digit, is_word_char}
use Rattle.wf_model.specs.Txt.{is_text_char}
use Rattle.wf_lex.specs.declared.token.TokenKind.{TokenKind}
use Rattle.wf_lex.specs.declared.token.TokenKind.TheVariants as kinds
use Rattle.wf_lex.specs.declared.token.Token.{Token}
use Rattle.wf_lex.specs.declared.token.LexFault.{LexFault}
use Rattle.wf_lex.specs.Lex.{lex, lex_token, with_first, with_kind, place, is_blank, is_alone, may_join, sign_rest, text_rest, token_at, tokens_of}
use Rattle.wf_lex.specs.Slices.{is_passed_over, AreSlices}

length-take_while : (p : ℕ → Bool) (bs : List ℕ) → length (take_while p bs) ≤ length bs
length-take_while p [] = omega arith
length-take_while p (b ∷ bs) =
    elim (cases_Bool (p b)) [
      | inl passes ↦ rw (take_while-cons, passes) (omega (arith, length-take_while p bs))
      | inr fails ↦ rw (take_while-cons, fails) (omega arith)
    ]

-- a byte that isn't 0 lies within
within_index : (bs : List ℕ) (i n : ℕ) → 0 < n → (get_or bs i 0 == n) ≡ true → i < length bs
within_index [] i n some same = grind (arith, nat_tests)
within_index (b ∷ bs) zero n some same = omega arith
within_index (b ∷ bs) (suc i) n some same = omega (arith, within_index bs i n some same)

text_within : (bs : List ℕ) (n : ℕ) → text_rest bs ≡ Some n → n ≤ length bs
text_within bs n e =
    elim (cases_Bool (get_or bs (length (take_while is_text_char bs)) 0 == 34)) [
      | inl closed ↦ let same : length (take_while is_text_char bs) + 1 ≡ n = cc (rw closed at e) in omega (arith, same, within_index bs (length (take_while is_text_char bs)) 34 (omega arith) closed)
      | inr open_text ↦ cc (rw open_text at e)
    ]

sign_within : (b : ℕ) (bs : List ℕ) (n : ℕ) → sign_rest b bs ≡ Some n → n ≤ length bs
sign_within b bs n e =
    elim (cases_Bool (is_alone b)) [
      | inl alone ↦ let none : 0 ≡ n = cc (rw alone at e) in omega (arith, none)
      | inr not_alone ↦ elim (cases_Bool (get_or bs 0 0 == 61)) [
        | inl equals ↦ elim (cases_Bool (may_join b)) [
          | inl joins ↦ let one : 1 ≡ n = cc (rw (not_alone, joins, equals) at e) in omega (arith, one, within_index bs 0 61 (omega arith) equals)
          | inr not_joins ↦ elim (cases_Bool (b == 33)) [
            | inl bang ↦ let one : 1 ≡ n = cc (rw (not_alone, not_joins, bang, equals) at e) in omega (arith, one, within_index bs 0 61 (omega arith) equals)
            | inr no_bang ↦ cc (rw (not_alone, not_joins, no_bang) at e)
          ]
        ]
        | inr differs ↦ elim (cases_Bool (may_join b)) [
          | inl joins ↦ let none : 0 ≡ n = cc (rw (not_alone, joins, differs) at e) in omega (arith, none)
          | inr not_joins ↦ elim (cases_Bool (b == 33)) [
            | inl bang ↦ cc (rw (not_alone, not_joins, bang, differs) at e)
            | inr no_bang ↦ cc (rw (not_alone, not_joins, no_bang) at e)
          ]
        ]
      ]
    ]

same_second : (p q : TokenKind × ℕ) → Some p ≡ Some q → p.1 ≡ q.1
same_second p q e = let same : p ≡ q = cc e in ap (λ t. t.1) same

kind_within : (bs : List ℕ) (o : Option ℕ) (given kind : TokenKind) (n : ℕ) → ((m : ℕ) → o ≡ Some m → m ≤ length bs) → with_kind given o ≡ Some (kind, n) → n ≤ length bs
kind_within bs None given kind n fits e = cc e
kind_within bs (Some m) given kind n fits e = let same : m ≡ n = same_second (given, m) (kind, n) e in omega (arith, same, fits m refl)

-- a token lies within the text
token_within : (b : ℕ) (bs : List ℕ) (kind : TokenKind) (n : ℕ) → token_at b bs ≡ Some (kind, n) → n ≤ length bs
unfolding token_at
token_within b bs kind n e =
    elim (cases_Bool (is_letter b)) [
      | inl letter ↦ let same : length (take_while is_word_char bs) ≡ n = same_second (kinds.Word, length (take_while is_word_char bs)) (kind, n) (rw letter at e) in omega (arith, same, length-take_while is_word_char bs)
      | inr no_letter ↦ elim (cases_Bool (is_digit b)) [
        | inl digit ↦ let same : length (take_while is_digit bs) ≡ n = same_second (kinds.Int, length (take_while is_digit bs)) (kind, n) (rw (no_letter, digit) at e) in omega (arith, same, length-take_while is_digit bs)
        | inr no_digit ↦ elim (cases_Bool (b == 34)) [
          | inl quote ↦ kind_within bs (text_rest bs) kinds.Text kind n (text_within bs) (rw (no_letter, no_digit, quote) at e)
          | inr no_quote ↦ kind_within bs (sign_rest b bs) kinds.Sign kind n (sign_within b bs) (rw (no_letter, no_digit, no_quote) at e)
        ]
      ]
    ]

-- a byte more is passed over
one_byte : (before after : Bool) (at b : ℕ) (bs : List ℕ) (ts : List Token)
    → ((at_end : Bool) (gap : List ℕ) → is_passed_over at_end before (b ∷ gap) ≡ is_passed_over at_end after gap)
    → AreSlices after (at + 1) bs ts → AreSlices before at (b ∷ bs) ts
one_byte before after at b bs [] passed more = passed true bs ∙ more
one_byte before after at b bs (t ∷ ts) passed (gap, body, rest, bytes, blank, start, end, token, more) =
    (b ∷ gap, body, rest, ap (λ r. b ∷ r) bytes, passed false gap ∙ blank, omega (arith, start), end, token, more)

-- a result with tokens at the front came of tokens behind them
with_first_ok : (found ts : List Token) (r : Result (List Token) LexFault) → with_first found r ≡ Ok ts → (more : List Token) × (r ≡ Ok more) × (ts ≡ found ++ more)
with_first_ok found ts (Ok more) e = let same : found ++ more ≡ ts = cc e in (more, refl, sym same)
with_first_ok found ts (Err fault) e = cc e

-- a token at the front
token_first : (at b n : ℕ) (bs : List ℕ) (more : List Token) (kind : TokenKind) (start end : ℕ) → start ≡ at → end ≡ at + 1 + n → n ≤ length bs
    → token_at b bs ≡ Some (kind, n) → AreSlices false (at + 1 + n) (drop n bs) more → AreSlices false at (b ∷ bs) (record { kind = kind; start = start; end = end } ∷ more)
token_first at b n bs more kind start end first last fits token behind =
    let long : length (take n bs) ≡ n = length-take-le n bs fits in
    let whole : take n bs ++ drop n bs ≡ bs = take-append-drop n bs in
    ([], b ∷ take n bs, drop n bs, ap (λ r. b ∷ r) (sym whole), refl, omega (arith, first), omega (arith, first, last, long), rw (whole, long) token, rw last behind)

-- a token begins here
at_token : (most len count at b : ℕ) (bs : List ℕ) (ts : List Token) (found : Option (TokenKind × ℕ)) → at ≡ place len (b ∷ bs) → token_at b bs ≡ found
    → ((n : ℕ) (more : List Token) → lex most len (count + 1) n false bs ≡ Ok more → AreSlices false (at + 1 + n) (drop n bs) more)
    → lex_token most len count b bs found (λ n. lex most len (count + 1) n false bs) ≡ Ok ts → AreSlices false at (b ∷ bs) ts
at_token most len count at b bs ts None here token behind e = cc e
at_token most len count at b bs ts (Some (kind, n)) here token behind e =
    elim (cases_Bool (count == most)) [
      | inl full ↦ cc (rw full at e)
      | inr few ↦
          let split = with_first_ok (record { kind = kind; start = place len (b ∷ bs); end = place len (b ∷ bs) + 1 + n } ∷ []) ts (lex most len (count + 1) n false bs) (rw few at e) in
          subst (λ xs. AreSlices false at (b ∷ bs) xs) (sym split.2)
          (token_first at b n bs split.0 kind (place len (b ∷ bs)) (place len (b ∷ bs) + 1 + n) (sym here) (omega (arith, here)) (token_within b bs kind n token) token
          (behind n split.0 split.1))
    ]

-- from any place on
sliced : (most len count n : ℕ) (comment : Bool) (bs : List ℕ) (ts : List Token) → length bs ≤ len → lex most len count n comment bs ≡ Ok ts → AreSlices comment (place len bs + n) (drop n bs) ts
sliced most len count zero comment [] ts fits e = let none : [] ≡ ts = cc e in subst (λ xs. AreSlices comment (place len [] + 0) [] xs) none refl
sliced most len count (suc n) comment [] ts fits e = let none : [] ≡ ts = cc e in subst (λ xs. AreSlices comment (place len [] + suc n) [] xs) none refl
sliced most len count (suc n) comment (b ∷ bs) ts fits e =
    let short : length bs ≤ len = omega arith in
    let here : place len bs + n ≡ place len (b ∷ bs) + suc n = omega arith in
    rw (← here) (sliced most len count n comment bs ts short e)
sliced most len count zero true (b ∷ bs) ts fits e =
    let short : length bs ≤ len = omega arith in
    let here : place len bs + 0 ≡ place len (b ∷ bs) + 0 + 1 = omega arith in
    one_byte true (not (b == 10)) (place len (b ∷ bs) + 0) b bs ts (λ at_end gap. refl) (rw (← here) (sliced most len count zero (not (b == 10)) bs ts short e))
sliced most len count zero false (b ∷ bs) ts fits e =
    let short : length bs ≤ len = omega arith in
    let here : place len bs + 0 ≡ place len (b ∷ bs) + 0 + 1 = omega arith in
    elim (cases_Bool (is_blank b)) [
      | inl blank ↦ one_byte false false (place len (b ∷ bs) + 0) b bs ts (λ at_end gap. rw blank refl) (rw (← here) (sliced most len count zero false bs ts short (rw blank at e)))
      | inr ink ↦ elim (cases_Bool (b == 35)) [
        | inl hash ↦ one_byte false true (place len (b ∷ bs) + 0) b bs ts (λ at_end gap. rw (ink, hash) refl) (rw (← here) (sliced most len count zero true bs ts short (rw (ink, hash) at e)))
        | inr no_hash ↦ at_token most len count (place len (b ∷ bs) + 0) b bs ts (token_at b bs) (omega arith) refl
            (λ n more f. let there : place len bs + n ≡ place len (b ∷ bs) + 0 + 1 + n = omega arith in rw (← there) (sliced most len (count + 1) n false bs more short f))
            (rw (ink, no_hash) at e)
      ]
    ]

-- the tokens of a text
pub tokens_sliced : (text : List ℕ) (ts : List Token) → tokens_of text ≡ Ok ts → AreSlices false 0 text ts
unfolding tokens_of
tokens_sliced text ts e =
    let start : place (length text) text + 0 ≡ 0 = omega arith in
    rw (← start) (sliced max_tokens (length text) 0 0 false text ts (omega arith) e)
