-- The tokens that a text is cut into are those that the tokenizer answers.
use Rattle.std.proofs.Common.{◌≡◌, ◌≢◌, ℕ, ◌+◌, ◌<◌, ◌≤◌, ◌==◌, Bool, true, false, not, List, [], ◌∷◌, ◌++◌, length, Result, Ok, refl, sym, ◌∙◌, ap, ap₂, arith, inl, inr, length-append}
use Rattle.std.proofs.lemmas.Bool.{cases_Bool}
use Rattle.std.proofs.lemmas.List.{drop_at}
use Rattle.std.proofs.lemmas.Bool.Decides.{nat_tests}
use Rattle.wf_model.specs.Limits.{max_tokens}
use Rattle.wf_lex.specs.declared.token.TokenKind.{TokenKind}
use Rattle.wf_lex.specs.declared.token.Token.{Token}
use Rattle.wf_lex.specs.declared.token.LexFault.{LexFault}
use Rattle.wf_lex.specs.Lex.{lex, with_first, place, is_blank, tokens_of}
use Rattle.wf_lex.specs.Slices.{is_passed_over, IsToken, AreSlices}
use Rattle.wf_lex.proofs.TokenSteps.{lex-token}
use Rattle.wf_lex.proofs.Sliced.{tokens_sliced}
use Rattle.wf_readback.specs.Cuts.{IsCut}
use Rattle.wf_readback.specs.Laws.{CutIsAnswered, CutsAreEqual}
use Rattle.wf_readback.proofs.Kept.{no_blank, no_hash}

-- what stands before a token
gap_passed : (len count : ℕ) (comment : Bool) (gap more : List ℕ) → is_passed_over false comment gap ≡ true
    → lex max_tokens len count 0 comment (gap ++ more) ≡ lex max_tokens len count 0 false more
gap_passed len count true [] more h = cc
gap_passed len count false [] more h = refl
gap_passed len count true (b ∷ gap) more h = gap_passed len count (not (b == 10)) gap more h
gap_passed len count false (b ∷ gap) more h =
    elim (cases_Bool (is_blank b)) [
      | inl blank ↦ rw blank (gap_passed len count false gap more (rw blank at h))
      | inr ink ↦ elim (cases_Bool (b == 35)) [
        | inl hash ↦ rw (ink, hash) (gap_passed len count true gap more (rw (ink, hash) at h))
        | inr no_hash ↦ cc (rw (ink, no_hash) at h)
      ]
    ]

-- what stands behind the last one
end_passed : (len count : ℕ) (comment : Bool) (bytes : List ℕ) → is_passed_over true comment bytes ≡ true → lex max_tokens len count 0 comment bytes ≡ Ok []
end_passed len count true [] h = refl
end_passed len count false [] h = refl
end_passed len count true (b ∷ bytes) h = end_passed len count (not (b == 10)) bytes h
end_passed len count false (b ∷ bytes) h =
    elim (cases_Bool (is_blank b)) [
      | inl blank ↦ rw blank (end_passed len count false bytes (rw blank at h))
      | inr ink ↦ elim (cases_Bool (b == 35)) [
        | inl hash ↦ rw (ink, hash) (end_passed len count true bytes (rw (ink, hash) at h))
        | inr no_hash ↦ cc (rw (ink, no_hash) at h)
      ]
    ]

-- a token at the front, before the rest
token_passed : (len count at : ℕ) (kind : TokenKind) (bytes more : List ℕ) → IsToken kind bytes more → at + length (bytes ++ more) ≡ len → count ≢ max_tokens
    → lex max_tokens len count 0 false (bytes ++ more) ≡ with_first (record { kind = kind; start = at; end = at + length bytes } ∷ []) (lex max_tokens len (count + 1) 0 false more)
token_passed len count at kind [] more is all few = absurd is
token_passed len count at kind (b ∷ bs) more is all few =
    let not_full : (count == max_tokens) ≡ false = grind (arith, nat_tests) in
    let start : place len (b ∷ (bs ++ more)) ≡ at = omega (arith, all) in
    let end : at + 1 + length bs ≡ at + length (b ∷ bs) = omega arith in
    lex-token max_tokens len count b (length bs) (bs ++ more) kind (no_blank b (bs ++ more) kind (length bs) is) (no_hash b (bs ++ more) kind (length bs) is) is not_full
    ∙ ap₂ (λ (s : ℕ) (r : Result (List Token) LexFault). with_first (record { kind = kind; start = s; end = s + 1 + length bs } ∷ []) r) start (ap (lex max_tokens len (count + 1) 0 false) (drop_at bs more (length bs) refl))
    ∙ ap (λ (n : ℕ). with_first (record { kind = kind; start = at; end = n } ∷ []) (lex max_tokens len (count + 1) 0 false more)) end

-- after so many tokens, so many more never come to the limit
abbrev NeverFull : (count more : ℕ) → Type 0
NeverFull count more = (k : ℕ) → k < more → count + k ≢ max_tokens

slices_are_answered : (ts : List Token) (len count at : ℕ) (bytes : List ℕ) → AreSlices false at bytes ts → at + length bytes ≡ len → NeverFull count (length ts)
    → lex max_tokens len count 0 false bytes ≡ Ok ts
slices_are_answered [] len count at bytes passed size room = end_passed len count false bytes passed
slices_are_answered (t ∷ ts) len count at bytes (gap, body, rest, parts, passed, start, end, is, more) size room =
    let whole : length bytes ≡ length gap + length (body ++ rest) = ap length parts ∙ length-append gap (body ++ rest) in
    let here : t.start + length (body ++ rest) ≡ len = omega (arith, size, whole, start) in
    let behind : t.end + length rest ≡ len = omega (arith, here, end, length-append body rest) in
    let not_full : count ≢ max_tokens = λ full. room 0 (omega arith) (omega (arith, full)) in
    let more_room : NeverFull (count + 1) (length ts) = λ k h full. room (k + 1) (omega (arith, h)) (omega (arith, full)) in
    ap (lex max_tokens len count 0 false) parts
    ∙ gap_passed len count false gap (body ++ rest) passed
    ∙ token_passed len count t.start t.kind body rest is here not_full
    ∙ ap (with_first (record { kind = t.kind; start = t.start; end = t.start + length body } ∷ [])) (slices_are_answered ts len (count + 1) t.end rest more behind more_room)
    ∙ ap (λ (n : ℕ). let r : Result (List Token) LexFault = Ok (record { kind = t.kind; start = t.start; end = n } ∷ ts) in r) (sym end)

pub answered : (text : List ℕ) (tokens : List Token) → length tokens ≤ max_tokens → IsCut text tokens → tokens_of text ≡ Ok tokens
unfolding tokens_of
answered text tokens few cut =
    slices_are_answered tokens (length text) 0 0 text cut (omega arith) (λ k h full. omega (arith, few, h, full))

pub cut_is_answered : CutIsAnswered
cut_is_answered text tokens few = (answered text tokens few, tokens_sliced text tokens)

-- from a count above the limit on, no token is one too many
cut_is_unbounded : (text : List ℕ) (tokens : List Token) → IsCut text tokens → lex max_tokens (length text) (max_tokens + 1) 0 false text ≡ Ok tokens
cut_is_unbounded text tokens cut =
    slices_are_answered tokens (length text) (max_tokens + 1) 0 text cut (omega arith) (λ k h full. omega (arith, full))

pub cuts_are_equal : CutsAreEqual
cuts_are_equal text tokens other cut also =
    let same : ◌≡◌ {A = Result (List Token) LexFault} (Ok tokens) (Ok other) = sym (cut_is_unbounded text tokens cut) ∙ cut_is_unbounded text other also in
    let tokens_same : tokens ≡ other = cc in tokens_same
