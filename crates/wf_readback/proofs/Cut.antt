-- A text of blanks and tokens is cut into these tokens.
use Rattle.std.proofs.Common.{◌≡◌, ℕ, ◌+◌, ◌-◌, Bool, true, false, List, [], ◌∷◌, ◌++◌, length, take, drop, map, refl, sym, ◌∙◌, ap, ap₂, subst, arith, append-nil, append_assoc, length-append}
use Rattle.std.specs.List.{list_all, slice_range}
use Rattle.std.proofs.lemmas.List.{drop_at, take_at}
use Rattle.wf_model.proofs.Bools.{and_both}
use Rattle.wf_lex.specs.declared.token.Token.{Token}
use Rattle.wf_lex.specs.Lex.{is_blank}
use Rattle.wf_lex.specs.Slices.{is_passed_over, IsToken, AreSlices}
use Rattle.wf_grammar.specs.Lexemes.{Lexeme, lexeme_of}
use Rattle.wf_readback.proofs.Spans.{Span, written, lexeme, lexemes_of, AreApart}
use Rattle.wf_readback.proofs.Canon.{EveryWrittenIsCut}
use Rattle.wf_readback.proofs.Kept.{token_kept}

-- the tokens of spans that begin at this place
abbrev tokens_at : ℕ → List Span → List Token
tokens_at at [] = []
tokens_at at (Span.gap bytes ∷ spans) = tokens_at (at + length bytes) spans
tokens_at at (Span.token kind bytes ∷ spans) = record { kind = kind; start = at; end = at + length bytes } ∷ tokens_at (at + length bytes) spans

-- ---- the text is cut into them

-- blanks before a token or before the end
blanks_before : (at_end : Bool) (bytes more : List ℕ) → list_all is_blank bytes ≡ true → is_passed_over at_end false (bytes ++ more) ≡ is_passed_over at_end false more
blanks_before at_end [] more h = refl
blanks_before at_end (b ∷ bytes) more h =
    let p = and_both (is_blank b) (list_all is_blank bytes) h in
    rw p.0 (blanks_before at_end bytes more p.1)

slices_behind : (at : ℕ) (bytes more : List ℕ) (ts : List Token) → list_all is_blank bytes ≡ true → AreSlices false (at + length bytes) more ts → AreSlices false at (bytes ++ more) ts
slices_behind at bytes more [] blank passed = blanks_before true bytes more blank ∙ passed
slices_behind at bytes more (t ∷ ts) blank (gap, body, rest, parts, passed, start, end, is, behind) = (
  bytes ++ gap,
  body,
  rest,
  ap (λ bs. bytes ++ bs) parts ∙ sym (append_assoc bytes gap (body ++ rest)),
  blanks_before false bytes gap blank ∙ passed,
  omega (arith, start, length-append bytes gap),
  end,
  is,
  behind,
)

are_slices : (spans : List Span) (at : ℕ) → AreApart spans [] → AreSlices false at (written spans) (tokens_at at spans)
are_slices [] at apart = refl
are_slices (Span.gap bytes ∷ spans) at apart = slices_behind at bytes (written spans) (tokens_at (at + length bytes) spans) apart.0 (are_slices spans (at + length bytes) apart.1)
are_slices (Span.token kind bytes ∷ spans) at apart =
    let token : IsToken kind bytes (written spans) = subst (λ (rest : List ℕ). IsToken kind bytes rest) (append-nil (written spans)) (token_kept kind bytes (written spans ++ []) apart.0 apart.1) in
    ([], bytes, written spans, refl, refl, omega arith, refl, token, are_slices spans (at + length bytes) apart.2)

-- ---- what the tokens are in the text

slice_is : (text front bytes more : List ℕ) (at : ℕ) → text ≡ front ++ (bytes ++ more) → at ≡ length front → slice_range text at (at + length bytes) ≡ bytes
slice_is text front bytes more at is begins =
    let span : at + length bytes - at ≡ length bytes = omega arith in
    ap (λ t. take (at + length bytes - at) (drop at t)) is
    ∙ ap (λ t. take (at + length bytes - at) t) (drop_at front (bytes ++ more) at (sym begins))
    ∙ ap (λ n. take n (bytes ++ more)) span
    ∙ take_at bytes more (length bytes) refl

are_lexemes : (spans : List Span) (text front rest : List ℕ) (at : ℕ) → text ≡ front ++ (written spans ++ rest) → at ≡ length front → map (lexeme_of text) (tokens_at at spans) ≡ lexemes_of spans
are_lexemes [] text front rest at is begins = refl
are_lexemes (Span.gap bytes ∷ spans) text front rest at is begins =
    are_lexemes spans text (front ++ bytes) rest (at + length bytes)
    (is ∙ ap (λ t. front ++ t) (append_assoc bytes (written spans) rest) ∙ sym (append_assoc front bytes (written spans ++ rest)))
    (omega (arith, begins, length-append front bytes))
are_lexemes (Span.token kind bytes ∷ spans) text front rest at is begins =
    let here = is ∙ ap (λ t. front ++ t) (append_assoc bytes (written spans) rest) in
    ap₂ (λ (w : Lexeme) (ws : List Lexeme). w ∷ ws)
    (ap (lexeme kind) (slice_is text front bytes (written spans ++ rest) at here begins))
    (are_lexemes spans text (front ++ bytes) rest (at + length bytes)
    (here ∙ sym (append_assoc front bytes (written spans ++ rest)))
    (omega (arith, begins, length-append front bytes)))

pub every_written_is_cut : EveryWrittenIsCut
every_written_is_cut spans apart =
    (tokens_at 0 spans, are_slices spans 0 apart, are_lexemes spans (written spans) [] [] 0 (sym (append-nil (written spans))) refl)
