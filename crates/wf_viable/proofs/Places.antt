-- The laws of where faults stand.
use Rattle.std.proofs.Common.{arith, ◌≡◌, ℕ, zero, suc, ◌+◌, ◌<◌, ◌≤◌, ◌⊎◌, inl, inr, nat_lt, Bool, true, false, if◌then◌else◌, List, [], ◌∷◌, ◌++◌, length, map, take, drop, Some, None, Result, Ok, Err, refl, sym, ◌∙◌, ap, ap₂, subst, append_assoc, append-nil, length-append}
use Rattle.std.proofs.lemmas.Bool.Decides.{nat_tests}
use Rattle.std.proofs.lemmas.List.{take_at, drop_at, take-append-drop}
use Rattle.wf_grammar.proofs.Inputs.{less_is}
use Rattle.std.proofs.Math.Seq.{take-append-add}
use Rattle.wf_model.specs.declared.chart.Transition.{Transition as Move}
use Rattle.wf_model.specs.declared.chart.Chart.{Chart as Drawing}
use Rattle.wf_lex.specs.declared.token.Token.{Token}
use Rattle.wf_lex.specs.declared.token.LexFault.{LexFault}
use Rattle.wf_lex.specs.declared.token.LexFault.TheVariants as lex
use Rattle.wf_lex.specs.Lex.{tokens_of}
use Rattle.wf_cursor.specs.declared.fault.TextFault.TheVariants as fault
use Rattle.wf_cursor.specs.declared.piece.Piece.{Piece}
use Rattle.wf_cursor.specs.declared.piece.Piece.TheVariants as pieces
use Rattle.wf_cursor.specs.Fault.{fault_of}
use Rattle.wf_cursor.specs.Input as input
use Rattle.wf_cursor.specs.Input.{Input, Outcome, Parser, and_then, ◌>>=◌, ◌>>◌, pure, syntax, expect, start_of}
use Rattle.wf_text.specs.declared.places.Place.{Place}
use Rattle.wf_text.specs.declared.chart_fault.ChartFault.{ChartFault}
use Rattle.wf_text.specs.declared.chart_fault.ChartFault.TheVariants as placed
use Rattle.wf_text.specs.ChartFaults.{token_place, placed_fault}
use Rattle.wf_text.specs.Declarations.{declarations}
use Rattle.wf_text.specs.States.{root}
use Rattle.wf_text.specs.Transitions.{transitions}
use Rattle.wf_text.specs.Text.{text_end, contents, whole, with_place, chart_from, chart_of}
use Rattle.wf_grammar.specs.Lexemes.{lexeme_of}
use Rattle.wf_grammar.proofs.ChartSpelled.{chart_spelled}
use Rattle.wf_viable.specs.Shapes.{first}
use Rattle.wf_viable.specs.Charts.{Chart}
use Rattle.wf_viable.specs.Laws.{pieces_of, BeginsChart, Misfits, IsFirstMisfit, IsFit, StandsAt, SyntaxIsFirstMisfit, place_of_other, OtherFaultsFit, StandsBefore, syntax_at, FirstMisfitIsTold, ReadIsShaped, SpelledIsShaped, MisfitIsFinal}
use Rattle.wf_viable.proofs.Fits as fits
use Rattle.wf_viable.proofs.Fits.{pieces_left, GoesOn, Parts, Took, Fits, first_behind}
use Rattle.wf_viable.proofs.Whole.{AtEnd, contents_fits}

-- ---- what the parts of the pieces say

-- a fault of syntax
parts_misfit : (text : List ℕ) (tokens : List Token) (at : ℕ) → Parts (start_of text tokens) at (fits.Misfits Chart AtEnd) → IsFirstMisfit (pieces_of text tokens) at
unfolding start_of
parts_misfit text tokens at parts =
    let count : length parts.us ≡ at = sym (parts.place ∙ (omega arith)) in
    let before : take at (pieces_of text tokens) ≡ parts.us = ap (take at) parts.whole ∙ take_at parts.us parts.rest at count in
    let after : drop at (pieces_of text tokens) ≡ parts.rest = ap (drop at) parts.whole ∙ drop_at parts.us parts.rest at count in
    let l = length-append parts.us parts.rest in
    let w = ap length parts.whole in
    record {
      within = omega (arith, l, w, count);
      begins = (parts.holds.ending, subst (λ x. Chart (x ++ parts.holds.ending)) (sym before) parts.holds.begins);
      misfits = λ more next shaped.
          parts.holds.stuck (take at (pieces_of text tokens) ++ more) [] more shaped refl (append-nil (take at (pieces_of text tokens) ++ more) ∙ ap (λ x. x ++ more) before) (next ∙ ap first after);
    }

-- another fault
parts_fit : (text : List ℕ) (tokens : List Token) (at : ℕ) → Parts (start_of text tokens) at (GoesOn Chart) → IsFit (pieces_of text tokens) at
unfolding start_of
parts_fit text tokens at parts =
    let count : length parts.us ≡ at = sym (parts.place ∙ (omega arith)) in
    let goes = parts.holds in
    let whole : pieces_of text tokens ≡ parts.us ++ goes.piece ∷ goes.more = parts.whole ∙ ap (λ x. parts.us ++ x) goes.next in
    let before : take (at + 1) (pieces_of text tokens) ≡ parts.us ++ goes.piece ∷ [] =
    ap (take (at + 1)) whole ∙ ap (λ n. take (n + 1) (parts.us ++ goes.piece ∷ goes.more)) (sym count) ∙ take-append-add parts.us (goes.piece ∷ goes.more) 1 in
    let l = length-append parts.us (goes.piece ∷ goes.more) in
    let w = ap length whole in
    record {
      within = omega (arith, l, w, count);
      begins = (goes.ending, subst (λ x. Chart (x ++ goes.ending)) (sym before) (subst Chart (sym (append_assoc parts.us (goes.piece ∷ []) goes.ending)) goes.begins));
    }

-- ---- which places come first

-- the pieces between two places
record Between (ps : List Piece) (before after : ℕ) : Type 0 where
  ms : List Piece
  whole : take after ps ≡ take before ps ++ ms
  begins : (more : List Piece) → first (ms ++ more) ≡ first (drop before ps)

between : (ps : List Piece) (before after : ℕ) → before < after → after ≤ length ps → Between ps before after
between ps before zero less within = let never : ⊥ = omega (arith, less) in absurd never
between [] before (suc after) less within = let never : ⊥ = omega (arith, within) in absurd never
between (p ∷ ps) zero (suc after) less within = record { ms = p ∷ take after ps; whole = refl; begins = λ more. refl }
between (p ∷ ps) (suc before) (suc after) less within =
    let b = between ps before after (omega (arith, less)) (omega (arith, within)) in
    record { ms = b.ms; whole = ap (λ x. p ∷ x) b.whole; begins = b.begins }

-- no text of the grammar goes past a misfit
none_past : (ps : List Piece) (before after : ℕ) → Misfits ps before → BeginsChart (take after ps) → before < after → after ≤ length ps → ⊥
none_past ps before after misfits begins less within =
    let b = between ps before after less within in
    misfits (b.ms ++ begins.0) (b.begins begins.0) (subst Chart (ap (λ x. x ++ begins.0) b.whole ∙ append_assoc (take before ps) b.ms begins.0) begins.1)

not_less : (n m : ℕ) → nat_lt n m ≡ false → m ≤ n
not_less n m h = grind (arith, nat_tests)

-- a text has one first misfit
one_misfit : (ps : List Piece) (at other : ℕ) → IsFirstMisfit ps at → IsFirstMisfit ps other → at ≡ other
one_misfit ps at other a b = by_tests (nat_lt at other) (nat_lt other at) refl refl
  where
    by_tests : (c d : Bool) → nat_lt at other ≡ c → nat_lt other at ≡ d → at ≡ other
    by_tests true d h k = absurd (none_past ps at other a.misfits b.begins (less_is at other h) b.within)
    by_tests false true h k = absurd (none_past ps other at b.misfits a.begins (less_is other at k) a.within)
    by_tests false false h k = let m = not_less at other h in let n = not_less other at k in omega (arith, m, n)

-- what fits stands before it
fit_before : (ps : List Piece) (at fit : ℕ) → IsFirstMisfit ps at → IsFit ps fit → fit < at
fit_before ps at fit a b = by_test (nat_lt at (fit + 1)) refl
  where
    by_test : (c : Bool) → nat_lt at (fit + 1) ≡ c → fit < at
    by_test true h = absurd (none_past ps at (fit + 1) a.misfits b.begins (less_is at (fit + 1) h) (let w = b.within in omega (arith, w)))
    by_test false h = let m = not_less at (fit + 1) h in omega (arith, m)

-- ---- nothing is left where a chart is read

abbrev AllOk : {A : Type 0} → (Input → Type 0) → Outcome A → Type 0
AllOk P (Ok q) = P q.1
AllOk P (Err e) = Unit {0}

then_all : {A B : Type 0} (P : Input → Type 0) (r : Outcome A) (f : A → Parser B) → ((x : A) (j : Input) → AllOk P (f x j)) → AllOk P (and_then r f)
then_all P (Ok q) f all = all q.0 q.1
then_all P (Err e) f all = tt

abbrev NoneLeft : Input → Type 0
NoneLeft j = pieces_left j ≡ []

text_end_all : (i : Input) → AllOk NoneLeft (text_end i)
text_end_all i = by_test (nat_lt 0 (length i.left)) refl
  where
    by_left : (left : List Token) → nat_lt 0 (length left) ≡ false → map (λ t. (lexeme_of i.text t).piece) left ≡ []
    by_left [] h = refl
    by_left (t ∷ rest) h = let m = not_less 0 (length (t ∷ rest)) h in let never : ⊥ = omega (arith, m) in absurd never

    by_test : (b : Bool) → nat_lt 0 (length i.left) ≡ b → AllOk NoneLeft (if b then syntax i else pure (tt {0}) i)
    by_test true h = tt
    by_test false h = by_left i.left h

contents_all : (i : Input) → AllOk NoneLeft (contents i)
unfolding contents
contents_all i =
    then_all NoneLeft (expect pieces.Chart i) _ (λ a j. then_all NoneLeft (input.name j) _ (λ name k. then_all NoneLeft (expect pieces.Semicolon k) _ (λ b l. then_all NoneLeft (declarations l) _ (λ c m.
    then_all NoneLeft (root m) _ (λ d n. then_all NoneLeft (transitions n) _ (λ found o. last o (text_end o) (name, found) (text_end_all o)))))))
  where
    last : {A : Type 0} (o : Input) (r : Outcome (Unit {0})) (a : A) → AllOk NoneLeft r → AllOk NoneLeft (and_then r (λ _. pure a))
    last o (Ok q) a all = all
    last o (Err e) a all = tt

all_shaped : (i : Input) (q : (List ℕ × List Move) × Input) → contents i ≡ Ok q → Chart (pieces_left i)
all_shaped i q is =
    let took : Took i q.1 Chart AtEnd = subst (λ (r : Outcome (List ℕ × List Move)). Fits i Chart AtEnd r) is (contents_fits i) in
    let none : NoneLeft q.1 = subst (λ (r : Outcome (List ℕ × List Move)). AllOk NoneLeft r) is (contents_all i) in
    subst Chart (sym (took.whole ∙ ap (λ x. took.us ++ x) none ∙ append-nil took.us)) took.takes.shaped

-- ---- the laws

-- the tokens and the outcome of a text that means a chart
read_shaped : (text : List ℕ) (chart : Drawing) (found : Result (List Token) LexFault) → tokens_of text ≡ found → chart_from text found ≡ Ok chart
    → (tokens : List Token) × (tokens_of text ≡ Ok tokens) × Chart (pieces_of text tokens)
unfolding start_of
read_shaped text chart (Ok tokens) is h = by_outcome (contents (start_of text tokens)) refl h
  where
    shaped : (q : (List ℕ × List Move) × Input) → contents (start_of text tokens) ≡ Ok q → Chart (pieces_of text tokens)
    shaped q got = all_shaped (start_of text tokens) q got

    by_outcome : (r : Outcome (List ℕ × List Move)) → contents (start_of text tokens) ≡ r → with_place text tokens (whole r) ≡ Ok chart
        → (tokens' : List Token) × (tokens_of text ≡ Ok tokens') × Chart (pieces_of text tokens')
    by_outcome (Ok q) got h' = (tokens, is, shaped q got)
    by_outcome (Err e) got h' = cc
read_shaped text chart (Err e) is h = cc

pub read_is_shaped : ReadIsShaped
unfolding chart_of
read_is_shaped text chart h = read_shaped text chart (tokens_of text) refl h

-- no fault of tokens is another's
lexical_is_none : (text : List ℕ) (e : LexFault) (line col : ℕ) → placed_fault text [] (fault_of e) ≡ placed.Syntax line col → ⊥
unfolding placed_fault
lexical_is_none text (lex.BadByte at) line col h = cc
lexical_is_none text (lex.TooManyTokens at) line col h = cc
lexical_is_none text lex.NoMemory line col h = cc

lexical_has_none : (text : List ℕ) (e : LexFault) → place_of_other (placed_fault text [] (fault_of e)) ≡ None
unfolding placed_fault
lexical_has_none text (lex.BadByte at) = refl
lexical_has_none text (lex.TooManyTokens at) = refl
lexical_has_none text lex.NoMemory = refl

same_place : (p : Place) (line col : ℕ) → placed.Syntax p.line p.col ≡ placed.Syntax line col → p ≡ record { line = line; col = col }
same_place p line col h = let l : p.line ≡ line = cc in let c : p.col ≡ col = cc in ap₂ (λ (a b : ℕ). record { line = a; col = b }) l c

syntax_told : (text : List ℕ) (line col : ℕ) (found : Result (List Token) LexFault) → tokens_of text ≡ found → chart_from text found ≡ Err (placed.Syntax line col)
    → StandsAt text (record { line = line; col = col }) IsFirstMisfit
unfolding placed_fault
syntax_told text line col (Ok tokens) is h = by_outcome (contents (start_of text tokens)) (contents_fits (start_of text tokens)) h
  where
    by_outcome : (r : Outcome (List ℕ × List Move)) → Fits (start_of text tokens) Chart AtEnd r → with_place text tokens (whole r) ≡ Err (placed.Syntax line col)
        → StandsAt text (record { line = line; col = col }) IsFirstMisfit
    by_outcome (Ok q) fit h' = cc
    by_outcome (Err (fault.Syntax at)) fit h' =
        let same : placed.Syntax (token_place text tokens at).line (token_place text tokens at).col ≡ placed.Syntax line col = cc in
        record { tokens = tokens; at = at; are_tokens = is; is_place = same_place (token_place text tokens at) line col same; holds = parts_misfit text tokens at fit }
    by_outcome (Err (fault.UnknownName at)) fit h' = cc
    by_outcome (Err (fault.DoubleName at)) fit h' = cc
    by_outcome (Err (fault.Oversize at)) fit h' = cc
    by_outcome (Err _) fit h' = absurd fit
syntax_told text line col (Err e) is h = let same : placed_fault text [] (fault_of e) ≡ placed.Syntax line col = cc in absurd (lexical_is_none text e line col same)

pub syntax_is_first_misfit : SyntaxIsFirstMisfit
unfolding chart_of
syntax_is_first_misfit text line col h = syntax_told text line col (tokens_of text) refl h

-- the place of another fault, of which it tells the line and the column
other_place : (text : List ℕ) (tokens : List Token) (at : ℕ) (e : ChartFault) (place : Place) (e' : ChartFault) → ◌≡◌ {A = Result Drawing ChartFault} (Err e') (Err e) → place_of_other e' ≡ Some (token_place text tokens at)
    → place_of_other e ≡ Some place → token_place text tokens at ≡ place
other_place text tokens at e place e' h first_place other =
    let same : e' ≡ e = cc in
    let both : Some (token_place text tokens at) ≡ Some place = sym first_place ∙ ap place_of_other same ∙ other in cc

other_told : (text : List ℕ) (e : ChartFault) (place : Place) (found : Result (List Token) LexFault) → tokens_of text ≡ found → chart_from text found ≡ Err e → place_of_other e ≡ Some place
    → StandsAt text place IsFit
unfolding placed_fault
other_told text e place (Ok tokens) is h other = by_outcome (contents (start_of text tokens)) (contents_fits (start_of text tokens)) h
  where
    by_outcome : (r : Outcome (List ℕ × List Move)) → Fits (start_of text tokens) Chart AtEnd r → with_place text tokens (whole r) ≡ Err e → StandsAt text place IsFit
    by_outcome (Ok q) fit h' = cc
    by_outcome (Err (fault.Syntax at)) fit h' =
        let same : placed.Syntax (token_place text tokens at).line (token_place text tokens at).col ≡ e = cc in
        let none : None ≡ Some place = ap place_of_other same ∙ other in
        let never : ⊥ = cc in absurd never
    by_outcome (Err (fault.UnknownName at)) fit h' =
        record { tokens = tokens; at = at; are_tokens = is; is_place = other_place text tokens at e place (placed.UnknownName (token_place text tokens at).line (token_place text tokens at).col) h' refl other; holds = parts_fit text tokens at fit }
    by_outcome (Err (fault.DoubleName at)) fit h' =
        record { tokens = tokens; at = at; are_tokens = is; is_place = other_place text tokens at e place (placed.DoubleName (token_place text tokens at).line (token_place text tokens at).col) h' refl other; holds = parts_fit text tokens at fit }
    by_outcome (Err (fault.Oversize at)) fit h' =
        record { tokens = tokens; at = at; are_tokens = is; is_place = other_place text tokens at e place (placed.Oversize (token_place text tokens at).line (token_place text tokens at).col) h' refl other; holds = parts_fit text tokens at fit }
    by_outcome (Err _) fit h' = absurd fit
other_told text e place (Err f) is h other =
    let same : placed_fault text [] (fault_of f) ≡ e = cc in
    let none : None ≡ Some place = sym (lexical_has_none text f) ∙ ap place_of_other same ∙ other in
    let never : ⊥ = cc in absurd never

pub other_faults_fit : OtherFaultsFit
unfolding chart_of
other_faults_fit text e place h other = other_told text e place (tokens_of text) refl h other

-- what is told of a text that has a first misfit
abbrev Told : List ℕ → List Token → ℕ → Type 0
Told text tokens at =
    (e : ChartFault) × (chart_from text (Ok tokens) ≡ Err e) × ((e ≡ syntax_at (token_place text tokens at)) ⊎ StandsBefore text tokens at e)

misfit_told : (text : List ℕ) (tokens : List Token) (at : ℕ) → IsFirstMisfit (pieces_of text tokens) at → Told text tokens at
unfolding placed_fault start_of
misfit_told text tokens at misfit = by_outcome (contents (start_of text tokens)) refl (contents_fits (start_of text tokens))
  where
    by_outcome : (r : Outcome (List ℕ × List Move)) → contents (start_of text tokens) ≡ r → Fits (start_of text tokens) Chart AtEnd r
        → (e : ChartFault) × (with_place text tokens (whole r) ≡ Err e) × ((e ≡ syntax_at (token_place text tokens at)) ⊎ StandsBefore text tokens at e)
    by_outcome (Ok q) got fit =
        let shaped : Chart (pieces_of text tokens) = all_shaped (start_of text tokens) q got in
        absurd (misfit.misfits (drop at (pieces_of text tokens)) refl (subst Chart (sym (take-append-drop at (pieces_of text tokens))) shaped))
    by_outcome (Err (fault.Syntax k)) got fit =
        let same : k ≡ at = one_misfit (pieces_of text tokens) k at (parts_misfit text tokens k fit) misfit in
        (placed_fault text tokens (fault.Syntax k), refl, inl (ap (λ n. syntax_at (token_place text tokens n)) same))
    by_outcome (Err (fault.UnknownName k)) got fit =
        (placed_fault text tokens (fault.UnknownName k), refl, inr (k, fit_before (pieces_of text tokens) at k misfit (parts_fit text tokens k fit), refl))
    by_outcome (Err (fault.DoubleName k)) got fit =
        (placed_fault text tokens (fault.DoubleName k), refl, inr (k, fit_before (pieces_of text tokens) at k misfit (parts_fit text tokens k fit), refl))
    by_outcome (Err (fault.Oversize k)) got fit =
        (placed_fault text tokens (fault.Oversize k), refl, inr (k, fit_before (pieces_of text tokens) at k misfit (parts_fit text tokens k fit), refl))
    by_outcome (Err _) got fit = absurd fit

pub first_misfit_is_told : FirstMisfitIsTold
unfolding chart_of
first_misfit_is_told text tokens at is misfit = rw is (misfit_told text tokens at misfit)

-- of these tokens
shaped_of : (text : List ℕ) (tokens : List Token) (chart : Drawing) → tokens_of text ≡ Ok tokens → chart_of text ≡ Ok chart → Chart (pieces_of text tokens)
shaped_of text tokens chart are reads =
    let shaped = read_is_shaped text chart reads in
    let same : shaped.0 ≡ tokens = (let both : Ok shaped.0 ≡ Ok tokens = sym shaped.1 ∙ are in cc) in
    subst (λ ts. Chart (pieces_of text ts)) same shaped.2

pub spelled_is_shaped : SpelledIsShaped
spelled_is_shaped text tokens chart are spelled = shaped_of text tokens chart are (chart_spelled text tokens chart are spelled)

pub misfit_is_final : MisfitIsFinal
misfit_is_final text other tokens others at chart is misfit are reads before there =
    let chart_shaped = shaped_of other others chart are reads in
    misfit.misfits (drop at (pieces_of other others)) there
    (subst Chart (sym (take-append-drop at (pieces_of other others)) ∙ ap (λ x. x ++ drop at (pieces_of other others)) before) chart_shaped)
