-- Bytes that are a token alone are one before others that don't go on with it.
use Rattle.std.proofs.Common.{◌≡◌, ℕ, ◌==◌, ◌&&◌, ◌||◌, Bool, true, false, List, [], ◌∷◌, ◌++◌, length, get_or, Option, Some, None, refl, sym, ◌∙◌, ap, ap₂, subst, arith, inl, inr, append-nil, cond}
use Rattle.std.specs.List.{take_while}
use Rattle.std.proofs.lemmas.Bool.{cases_Bool}
use Rattle.std.proofs.lemmas.List.Sums.{take_while-cons}
use Rattle.std.proofs.lemmas.Bool.Decides.{nat_tests}
use Rattle.wf_model.specs.Names.{is_letter, is_digit, is_word_char}
use Rattle.wf_model.specs.Txt.{is_text_char}
use Rattle.wf_model.proofs.Bools.{or_cases}
use Rattle.wf_lex.specs.declared.token.TokenKind.{TokenKind}
use Rattle.wf_lex.specs.declared.token.TokenKind.TheVariants as kinds
use Rattle.wf_lex.specs.Lex.{with_kind, is_blank, is_alone, may_join, sign_rest, text_rest, token_at}
use Rattle.wf_lex.specs.Slices.{IsToken}
use Rattle.wf_readback.proofs.Spans.{goes_on}

pub passes_first : (p : ℕ → Bool) (b : ℕ) (bs : List ℕ) → p b ≡ true → take_while p (b ∷ bs) ≡ b ∷ take_while p bs
passes_first p b bs passes = take_while-cons p b bs ∙ ap (λ t. cond t (b ∷ take_while p bs) []) passes

fails_first : (p : ℕ → Bool) (b : ℕ) (bs : List ℕ) → p b ≡ false → take_while p (b ∷ bs) ≡ []
fails_first p b bs fails = take_while-cons p b bs ∙ ap (λ t. cond t (b ∷ take_while p bs) []) fails

-- what passes stays whole before what doesn't
run_kept : (p : ℕ → Bool) (bs rest : List ℕ) → length (take_while p (bs ++ [])) ≡ length bs → p (get_or rest 0 0) ≡ false → length (take_while p (bs ++ rest)) ≡ length bs
run_kept p [] [] whole stops = refl
run_kept p [] (c ∷ rest) whole stops = ap length (fails_first p c rest stops)
run_kept p (b ∷ bs) rest whole stops =
    elim (cases_Bool (p b)) [
      | inl passes ↦
          let here = ap length (passes_first p b (bs ++ []) passes) in
          let there = ap length (passes_first p b (bs ++ rest) passes) in
          let short : length (take_while p (bs ++ [])) ≡ length bs = omega (arith, here, whole) in
          omega (arith, there, run_kept p bs rest short stops)
      | inr fails ↦
          let none = ap length (fails_first p b (bs ++ []) fails) in
          absurd (omega (arith, none, whole))
    ]

record Closes (bs rest : List ℕ) : Type 0 where
  same : take_while is_text_char (bs ++ rest) ≡ take_while is_text_char bs
  closed : (get_or (bs ++ rest) (length (take_while is_text_char bs)) 0 == 34) ≡ true

closes : (bs rest : List ℕ) → (get_or bs (length (take_while is_text_char bs)) 0 == 34) ≡ true → Closes bs rest
closes [] rest h = cc
closes (b ∷ bs) rest h =
    elim (cases_Bool (is_text_char b)) [
      | inl passes ↦
          let front : take_while is_text_char (b ∷ bs) ≡ b ∷ take_while is_text_char bs = passes_first is_text_char b bs passes in
          let front_of_all : take_while is_text_char (b ∷ (bs ++ rest)) ≡ b ∷ take_while is_text_char (bs ++ rest) = passes_first is_text_char b (bs ++ rest) passes in
          let more = closes bs rest (rw front at h) in
          record {
            same = front_of_all ∙ ap (λ cs. b ∷ cs) more.same ∙ sym front;
            closed = rw front more.closed;
          }
      | inr fails ↦
          let front : take_while is_text_char (b ∷ bs) ≡ [] = fails_first is_text_char b bs fails in
          let front_of_all : take_while is_text_char (b ∷ (bs ++ rest)) ≡ [] = fails_first is_text_char b (bs ++ rest) fails in
          record {
            same = front_of_all ∙ sym front;
            closed = rw front (rw front at h);
          }
    ]

text_kept : (bs rest : List ℕ) (n : ℕ) → text_rest bs ≡ Some n → text_rest (bs ++ rest) ≡ Some n
text_kept bs rest n e =
    elim (cases_Bool (get_or bs (length (take_while is_text_char bs)) 0 == 34)) [
      | inl closed ↦
          let all = closes bs rest closed in
          rw all.same (rw all.closed (rw closed at e))
      | inr open_text ↦ cc (rw open_text at e)
    ]

sign_kept : (b : ℕ) (bs rest : List ℕ) → sign_rest b (bs ++ []) ≡ Some (length bs) → (may_join b && (get_or rest 0 0 == 61)) ≡ false → sign_rest b (bs ++ rest) ≡ Some (length bs)
sign_kept b (c ∷ bs) rest is stops = is
sign_kept b [] rest is stops =
    elim (cases_Bool (is_alone b)) [
      | inl alone ↦ rw alone refl
      | inr joined ↦ elim (cases_Bool (may_join b)) [
        | inl joins ↦ let other : (get_or rest 0 0 == 61) ≡ false = (rw joins at stops) in rw (joined, joins, other) refl
        | inr apart ↦ elim (cases_Bool (b == 33)) [
          | inl bang ↦ cc (rw (joined, apart, bang) at is)
          | inr no_bang ↦ cc (rw (joined, apart, no_bang) at is)
        ]
      ]
    ]

parts : (p q : TokenKind × ℕ) → Some p ≡ Some q → (p.0 ≡ q.0) × (p.1 ≡ q.1)
parts p q e = let same : p ≡ q = cc e in (ap (λ t. t.0) same, ap (λ t. t.1) same)

record Kinded (given kind : TokenKind) (o : Option ℕ) (n : ℕ) : Type 0 where
  same : given ≡ kind
  found : o ≡ Some n

kinded : (given kind : TokenKind) (o : Option ℕ) (n : ℕ) → with_kind given o ≡ Some (kind, n) → Kinded given kind o n
kinded given kind None n e = cc
kinded given kind (Some m) n e = let p = parts (given, m) (kind, n) e in record { same = p.0; found = ap Some p.1 }

ended : (given kind : TokenKind) (bytes rest : List ℕ) → given ≡ kind → goes_on kind bytes (get_or rest 0 0) ≡ false → goes_on given bytes (get_or rest 0 0) ≡ false
ended given kind bytes rest same stops = subst (λ (k : TokenKind). goes_on k bytes (get_or rest 0 0) ≡ false) (sym same) stops

pub token_kept : (kind : TokenKind) (bytes rest : List ℕ) → IsToken kind bytes [] → goes_on kind bytes (get_or rest 0 0) ≡ false → IsToken kind bytes rest
unfolding token_at
token_kept kind [] rest is stops = is
token_kept kind (b ∷ bs) rest is stops =
    elim (cases_Bool (is_letter b)) [
      | inl letter ↦
          let k = kinded kinds.Word kind (Some (length (take_while is_word_char (bs ++ [])))) (length bs) (rw letter at is) in
          let size : length (take_while is_word_char (bs ++ [])) ≡ length bs = (cc (k.found)) in
          let ends = ended kinds.Word kind (b ∷ bs) rest k.same stops in
          rw letter (ap₂ (λ (t : TokenKind) (n : ℕ). Some (t, n)) k.same (run_kept is_word_char bs rest size ends))
      | inr no_letter ↦ elim (cases_Bool (is_digit b)) [
        | inl digit ↦
            let k = kinded kinds.Int kind (Some (length (take_while is_digit (bs ++ [])))) (length bs) (rw (no_letter, digit) at is) in
            let size : length (take_while is_digit (bs ++ [])) ≡ length bs = (cc (k.found)) in
            let ends = ended kinds.Int kind (b ∷ bs) rest k.same stops in
            rw (no_letter, digit) (ap₂ (λ (t : TokenKind) (n : ℕ). Some (t, n)) k.same (run_kept is_digit bs rest size ends))
        | inr no_digit ↦ elim (cases_Bool (b == 34)) [
          | inl quote ↦
              let k = kinded kinds.Text kind (text_rest (bs ++ [])) (length bs) (rw (no_letter, no_digit, quote) at is) in
              let found : text_rest bs ≡ Some (length bs) = ap text_rest (sym (append-nil bs)) ∙ k.found in
              rw (no_letter, no_digit, quote) (rw (text_kept bs rest (length bs) found) (ap (λ (t : TokenKind). Some (t, length bs)) k.same))
          | inr no_quote ↦
              let k = kinded kinds.Sign kind (sign_rest b (bs ++ [])) (length bs) (rw (no_letter, no_digit, no_quote) at is) in
              let ends = ended kinds.Sign kind (b ∷ bs) rest k.same stops in
              rw (no_letter, no_digit, no_quote) (rw (sign_kept b bs rest k.found ends) (ap (λ (t : TokenKind). Some (t, length bs)) k.same))
        ]
      ]
    ]

-- ---- no token begins with a blank or with `#`

number_is : (a b : ℕ) → (a == b) ≡ true → a ≡ b
number_is a b h = grind (arith, nat_tests)

none_at : (k b : ℕ) (bs : List ℕ) → (b == k) ≡ true → token_at k bs ≡ None → token_at b bs ≡ None
none_at k b bs same none = rw (number_is b k same) none

blank_begins_none : (b : ℕ) (bs : List ℕ) → is_blank b ≡ true → token_at b bs ≡ None
unfolding token_at
blank_begins_none b bs h =
    elim (or_cases (b == 32) (b == 9 || (b == 13 || b == 10)) h) [
      | inl space ↦ none_at 32 b bs space refl
      | inr h ↦ elim (or_cases (b == 9) (b == 13 || b == 10) h) [
        | inl tab ↦ none_at 9 b bs tab refl
        | inr h ↦ elim (or_cases (b == 13) (b == 10) h) [
          | inl cr ↦ none_at 13 b bs cr refl
          | inr lf ↦ none_at 10 b bs lf refl
        ]
      ]
    ]

hash_begins_none : (b : ℕ) (bs : List ℕ) → (b == 35) ≡ true → token_at b bs ≡ None
unfolding token_at
hash_begins_none b bs h = none_at 35 b bs h refl

pub no_blank : (b : ℕ) (bs : List ℕ) (kind : TokenKind) (n : ℕ) → token_at b bs ≡ Some (kind, n) → is_blank b ≡ false
no_blank b bs kind n e =
    elim (cases_Bool (is_blank b)) [
      | inl blank ↦ let none = blank_begins_none b bs blank in cc
      | inr ink ↦ ink
    ]

pub no_hash : (b : ℕ) (bs : List ℕ) (kind : TokenKind) (n : ℕ) → token_at b bs ≡ Some (kind, n) → (b == 35) ≡ false
no_hash b bs kind n e =
    elim (cases_Bool (b == 35)) [
      | inl hash ↦ let none = hash_begins_none b bs hash in cc
      | inr other ↦ other
    ]
