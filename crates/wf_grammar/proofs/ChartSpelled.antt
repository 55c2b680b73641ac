-- Tokens that are a text of a chart mean this chart.
use Rattle.std.proofs.Common.{◌≡◌, ◌≢◌, ℕ, ◌+◌, ◌≤◌, ◌⊎◌, inl, inr, true, nat_le, List, [], ◌∷◌, ◌++◌, length, map, Option, Some, None, Result, Ok, refl, sym, ◌∙◌, ap, append-nil}
use Rattle.wf_model.specs.Limits.{max_name}
use Rattle.wf_model.specs.declared.chart.Kind.{Kind}
use Rattle.wf_model.specs.declared.chart.Kind.TheVariants as kinds
use Rattle.wf_model.specs.declared.chart.Transition.{Transition}
use Rattle.wf_model.specs.declared.chart.Chart.{Chart}
use Rattle.wf_lex.specs.declared.token.Token.{Token}
use Rattle.wf_cursor.specs.declared.piece.Piece.{Piece}
use Rattle.wf_cursor.specs.declared.piece.Piece.TheVariants as pieces
use Rattle.wf_cursor.specs.Input as input
use Rattle.wf_cursor.specs.Input.{Input, Outcome, Parser, and_then, ◌>>=◌, ◌>>◌, pure, next, spelling, name_ahead, start_of, chart_with}
use Rattle.wf_text.specs.declared.chart_fault.ChartFault.{ChartFault}
use Rattle.wf_text.specs.Text.{text_end, contents, whole, with_place, chart_from, chart_of}
use Rattle.wf_grammar.specs.Lexemes.{Lexeme, lexeme_of}
use Rattle.wf_grammar.specs.Phrases.{Names, Is}
use Rattle.wf_grammar.specs.Laws.{first_piece}
use Rattle.wf_grammar.specs.Scopes.{Scope, first_scope}
use Rattle.wf_grammar.specs.Declaring.{Declarations}
use Rattle.wf_grammar.specs.Drawing as drawing
use Rattle.wf_grammar.specs.Drawing.{word_of_kind, Root}
use Rattle.wf_grammar.specs.Moving as moving
use Rattle.wf_grammar.specs.Moving.{Transitions}
use Rattle.wf_grammar.specs.Charts.{IsChart, is_chart}
use Rattle.wf_grammar.specs.ChartLaws.{ChartSpelledIsRead, SpellsOneChart}
use Rattle.wf_grammar.proofs.Rules.{BeginsNoDeclaration, BeginsNoState}
use Rattle.wf_grammar.proofs.Inputs.{here, spelling_here, next_here, is_fit}
use Rattle.wf_grammar.proofs.SpellSteps.{sees_here, headed, emptied}
use Rattle.wf_grammar.proofs.Places.{within}
use Rattle.wf_grammar.proofs.Giving.{Gave, then_gives, pure_gave, expect_gives}
use Rattle.wf_grammar.proofs.DeclaredReads.{declarations_give}
use Rattle.wf_grammar.proofs.DrawnReads.{root_gives, state_begins}
use Rattle.wf_grammar.proofs.MovedReads.{moves_begin, transitions_give}

-- ---- what each part of a chart begins with

-- nothing, or `from`
abbrev AtTransitions : Option Piece → Type 0
AtTransitions p = (p ≡ None) ⊎ (p ≡ Some pieces.From)

transitions_begin : (names : Names) {ts : List Lexeme} {found : List Transition} → Transitions names ts found → AtTransitions (first_piece ts)
transitions_begin names moving.no_transition = inl refl
transitions_begin names (moving.more_transitions {vs} first others) = inr (let b = moves_begin names first vs in b.first)

not_none : (p : Option Piece) (q : Piece) → p ≡ None → p ≢ Some q
not_none p q is e = cc

not_other : (p : Option Piece) (q r : Piece) → q ≢ r → p ≡ Some q → p ≢ Some r
not_other p q r differ is e = let same : q ≡ r = cc in differ same

no_state : (p : Option Piece) → AtTransitions p → BeginsNoState p
no_state p (inl is) = (not_none p pieces.Basic is, not_none p pieces.Or is, not_none p pieces.And is)
no_state p (inr is) = (not_other p pieces.From pieces.Basic (λ e. cc) is, not_other p pieces.From pieces.Or (λ e. cc) is, not_other p pieces.From pieces.And (λ e. cc) is)

no_declaration : (p : Option Piece) → AtTransitions p → BeginsNoDeclaration p
no_declaration p (inl is) = (not_none p pieces.Unit is, not_none p pieces.Event is, not_none p pieces.Var is, not_none p pieces.Activity is)
no_declaration p (inr is) = (
  not_other p pieces.From pieces.Unit (λ e. cc) is,
  not_other p pieces.From pieces.Event (λ e. cc) is,
  not_other p pieces.From pieces.Var (λ e. cc) is,
  not_other p pieces.From pieces.Activity (λ e. cc) is,
)

word_begins_no_declaration : (k : Kind) (p : Option Piece) → p ≡ Some (word_of_kind k) → BeginsNoDeclaration p
word_begins_no_declaration kinds.Basic p is = (
  not_other p pieces.Basic pieces.Unit (λ e. cc) is,
  not_other p pieces.Basic pieces.Event (λ e. cc) is,
  not_other p pieces.Basic pieces.Var (λ e. cc) is,
  not_other p pieces.Basic pieces.Activity (λ e. cc) is,
)
word_begins_no_declaration kinds.Or p is = (
  not_other p pieces.Or pieces.Unit (λ e. cc) is,
  not_other p pieces.Or pieces.Event (λ e. cc) is,
  not_other p pieces.Or pieces.Var (λ e. cc) is,
  not_other p pieces.Or pieces.Activity (λ e. cc) is,
)
word_begins_no_declaration kinds.And p is = (
  not_other p pieces.And pieces.Unit (λ e. cc) is,
  not_other p pieces.And pieces.Event (λ e. cc) is,
  not_other p pieces.And pieces.Var (λ e. cc) is,
  not_other p pieces.And pieces.Activity (λ e. cc) is,
)

root_begins : (s : Scope) {ss : List Lexeme} {s' : Scope} → Root s ss s' → (ts : List Lexeme) → AtTransitions (first_piece ts) → BeginsNoDeclaration (first_piece (ss ++ ts))
root_begins s drawing.no_root ts at = no_declaration (first_piece ts) at
root_begins s (drawing.root {ws} drawn) ts at =
    let b = state_begins drawn in
    let first : first_piece (ws ++ ts) ≡ Some (word_of_kind b.kind) = ap (λ ls. first_piece (ls ++ ts)) b.whole ∙ ap Some b.is in
    word_begins_no_declaration b.kind (first_piece (ws ++ ts)) first

-- ---- the steps of a chart

any_name_gives : (text : List ℕ) (s : Scope) (w : Lexeme) (ws : List Lexeme) (left : List Token) (at count : ℕ) → map (lexeme_of text) left ≡ w ∷ ws
    → Is pieces.Name w → length w.bytes ≤ max_name → Gave text s w.bytes ws (input.name (here (within text s) left at count))
unfolding input.name name_ahead
any_name_gives text s w ws left at count is is_name is_short =
    let h = headed (lexeme_of text) w ws left is in
    let i = within text s in
    let is_word : spelling (here i (h.token ∷ h.rest) at count) ≡ w.bytes = spelling_here i h.token h.rest at count ∙ ap (λ (v : Lexeme). v.bytes) h.token_is in
    let short : nat_le (length (spelling (here i (h.token ∷ h.rest) at count))) max_name ≡ true =
    ap (λ (b : List ℕ). nat_le (length b) max_name) is_word ∙ is_fit (length w.bytes) max_name is_short in
    rw h.whole (record {
      rest = h.rest;
      at = at + 1;
      count = count;
      rest_is = h.rest_is;
      gives = rw (sees_here i h.token h.rest at count pieces.Name (ap (λ (v : Lexeme). v.piece) h.token_is ∙ is_name))
          (rw short (rw is_word (ap (λ (k : Input). Ok (w.bytes, k)) (next_here i h.token h.rest at count))));
    })

text_end_gives : (text : List ℕ) (s : Scope) (left : List Token) (at count : ℕ) → map (lexeme_of text) left ≡ [] → Gave text s tt [] (text_end (here (within text s) left at count))
text_end_gives text s left at count is =
    rw (emptied (lexeme_of text) left is) (record { rest = []; at = at; count = count; rest_is = refl; gives = refl })

contents_give : (text : List ℕ) (s s' : Scope) (found : List Transition) (ds ss ts : List Lexeme) (word n ends : Lexeme)
    → Is pieces.Chart word → Is pieces.Name n → length n.bytes ≤ max_name → Is pieces.Semicolon ends
    → Declarations first_scope ds s → Root s ss s' → Transitions s'.names ts found
    → (left : List Token) (at count : ℕ) → map (lexeme_of text) left ≡ word ∷ n ∷ ends ∷ (ds ++ (ss ++ ts))
    → Gave text s' (n.bytes, found) [] (contents (here (within text first_scope) left at count))
unfolding contents
contents_give text s s' found ds ss ts word n ends is_chart_word is_name is_short semicolon declared drawn moved left at count is =
    let late = transitions_begin s'.names moved in
    then_gives text first_scope s' _ _ _ _ _ _ (expect_gives text first_scope left at count word (n ∷ ends ∷ (ds ++ (ss ++ ts))) is pieces.Chart is_chart_word) (λ rest at count is.
    then_gives text first_scope s' _ _ _ _ _ _ (any_name_gives text first_scope n (ends ∷ (ds ++ (ss ++ ts))) rest at count is is_name is_short) (λ rest at count is.
    then_gives text first_scope s' _ _ _ _ _ _ (expect_gives text first_scope rest at count ends (ds ++ (ss ++ ts)) is pieces.Semicolon semicolon) (λ rest at count is.
    then_gives text s s' _ _ _ _ _ _ (declarations_give text first_scope s ds declared (ss ++ ts) (root_begins s drawn ts late) rest at count is) (λ rest at count is.
    then_gives text s' s' _ _ _ _ _ _ (root_gives text s drawn ts (no_state (first_piece ts) late) rest at count is) (λ rest at count is.
    then_gives text s' s' _ _ _ _ _ _ (transitions_give text s' moved [] (λ e. cc) rest at count (is ∙ sym (append-nil ts))) (λ rest at count is.
    then_gives text s' s' _ _ _ _ _ _ (text_end_gives text s' rest at count is) (λ rest at count is.
    pure_gave text s' (n.bytes, found) [] rest at count is)))))))

chart_given : {ws : List Lexeme} {chart : Chart} → IsChart ws chart → (text : List ℕ) (tokens : List Token) → map (lexeme_of text) tokens ≡ ws
    → whole (contents (here (within text first_scope) tokens 0 0)) ≡ Ok chart
unfolding chart_with
chart_given (is_chart {ds} {ss} {ts} word n ends s s' found is_chart_word is_name is_short semicolon declared drawn moved) text tokens is =
    let g = contents_give text s s' found ds ss ts word n ends is_chart_word is_name is_short semicolon declared drawn moved tokens 0 0 is in
    ap whole g.gives

pub chart_spelled : ChartSpelledIsRead
unfolding chart_of start_of
chart_spelled text tokens chart tokens_are is = ap (chart_from text) tokens_are ∙ ap (with_place text tokens) (chart_given is text tokens refl)

one_chart : (text : List ℕ) (chart other : Chart) → chart_of text ≡ Ok chart → chart_of text ≡ Ok other → chart ≡ other
one_chart text chart other a b =
    let both : ◌≡◌ {A = Result Chart ChartFault} (Ok chart) (Ok other) = sym a ∙ b in
    let same : chart ≡ other = cc in same

pub spells_one_chart : SpellsOneChart
spells_one_chart text tokens chart other tokens_are is also =
    one_chart text chart other (chart_spelled text tokens chart tokens_are is) (chart_spelled text tokens other tokens_are also)
