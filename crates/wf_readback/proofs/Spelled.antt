-- The canonical text of a chart is a text of it by the grammar, and is read back.
use Rattle.std.proofs.Common.{◌≡◌, ◌≤◌, ℕ, List, [], ◌∷◌, ◌++◌, length, sym, ◌∙◌, ap, subst, arith, append-nil, length-append}
use Rattle.std.proofs.lemmas.List.{length-map}
use lib.Chars.{codes}
use Rattle.wf_model.specs.Limits.{max_tokens}
use Rattle.wf_model.specs.declared.chart.State.{State}
use Rattle.wf_model.specs.declared.chart.Chart.{Chart}
use Rattle.wf_model.specs.Accepted.{IsAccepted}
use Rattle.wf_lex.specs.declared.token.Token.{Token}
use Rattle.wf_lex.proofs.Sliced.{tokens_sliced}
use Rattle.wf_cursor.specs.Input.{Input, start_of, chart_with}
use Rattle.wf_print.specs.ChartText.{chart_text}
use Rattle.wf_grammar.specs.Lexemes.{Lexeme, lexeme_of}
use Rattle.wf_grammar.specs.Scopes.{Scope, scope_of, first_scope}
use Rattle.wf_grammar.specs.Declaring.{Declarations}
use Rattle.wf_grammar.specs.Charts.{IsChart, is_chart}
use Rattle.wf_grammar.proofs.ChartRead.{chart_read}
use Rattle.wf_grammar.proofs.ChartSpelled.{chart_spelled}
use Rattle.wf_grammar.proofs.Declared.{declarations_read}
use Rattle.wf_grammar.proofs.Drawn.{root_read}
use Rattle.wf_grammar.proofs.Moved.{transitions_read}
use Rattle.wf_readback.proofs.Spans.{Span, written, lexemes_of, AreApart}
use Rattle.wf_readback.proofs.ChartSpans.{chart_spans}
use Rattle.wf_readback.proofs.ChartNames.{has_names, name_piece, name_is_short}
use Rattle.wf_readback.proofs.Known.{is_named_of}
use Rattle.wf_readback.proofs.Slices.{answered, cuts_are_equal}
use Rattle.wf_readback.proofs.ChartFits.{chart_fits, every_chart_is_cut}
use Rattle.wf_readback.specs.Laws.{MeantIsTextOf, TextOfFewIsMeant, ChartIsSpelled, ChartIsReadBack, ShortTextIsReadBack}
use Rattle.wf_readback.proofs.Steps.{Made, made_of}
use Rattle.wf_readback.proofs.Pieces.{word_lexeme, sign_lexeme, semicolon_is}
use Rattle.wf_readback.proofs.Loops.{start}
use Rattle.wf_readback.proofs.Short.{short_of}
use Rattle.wf_readback.proofs.Whole.{Parsed, parsed, parts_are, chart_is, chart_is_whole}

pub meant_is_text_of : MeantIsTextOf
meant_is_text_of text chart means = let r = chart_read text chart means in (r.0, tokens_sliced text r.0 r.1, r.2)

pub text_of_few_is_meant : TextOfFewIsMeant
text_of_few_is_meant text tokens chart cut few of =
    let same : tokens ≡ of.0 = cuts_are_equal text tokens of.0 cut of.1 in
    let size : length of.0 ≤ max_tokens = subst (λ (ts : List Token). length ts ≤ max_tokens) same few in
    chart_spelled text of.0 chart (answered text of.0 size of.1) of.2

first_scope_is : (i : Input) → made_of i ≡ start i → i.states ≡ [] → scope_of i ≡ first_scope
unfolding start_of
first_scope_is i fresh no_state =
    ap (λ (m : Made). let s : Scope = record { units = m.units; events = m.events; vars = m.vars; acts = m.acts; states = m.states; names = m.names } in s) fresh
    ∙ ap (λ (xs : List State). record first_scope { states = xs }) no_state

module _ (chart : Chart) (accepted : IsAccepted chart) where
  -- the chart of what was declared, and of its transitions
  abbrev chart_in : Scope → Chart
  chart_in s = record { name = chart.name; units = s.units; events = s.events; vars = s.vars; acts = s.acts; states = s.states; transitions = chart.transitions }

  chart_is_in : (i : Input) (p : Parsed chart i) → chart_in (scope_of p.behind) ≡ chart
  unfolding chart_with
  chart_is_in i p = chart_is_whole chart accepted p.before p.behind p.made

  spelled : (i : Input) → Parsed chart i → IsChart (lexemes_of (chart_spans chart)) chart
  spelled i p =
      let name = (has_names chart (is_named_of chart accepted)).own in
      let d = declarations_read p.before p.declared p.declarations_is in
      let r = root_read p.declared p.drawn p.root_is in
      let t = transitions_read p.drawn p.behind chart.transitions p.transitions_is in
      let declared = subst (λ (s : Scope). Declarations s d.0 (scope_of p.declared)) (first_scope_is p.before p.fresh p.no_state) d.1 in
      let words : lexemes_of (chart_spans chart) ≡ word_lexeme (codes "chart") ∷ word_lexeme chart.name ∷ sign_lexeme (codes ";") ∷ (d.0 ++ (r.0 ++ t.0)) =
      parts_are chart
      ∙ ap (λ (ws : List Lexeme). word_lexeme (codes "chart") ∷ word_lexeme chart.name ∷ sign_lexeme (codes ";") ∷ ws)
      (sym p.begins ∙ d.2 ∙ ap (λ (ws : List Lexeme). d.0 ++ ws) (r.2 ∙ ap (λ (ws : List Lexeme). r.0 ++ ws) (t.2 ∙ ap (λ (ws : List Lexeme). t.0 ++ ws) p.none_left ∙ append-nil t.0))) in
      let whole : chart_in (scope_of p.drawn) ≡ chart = ap chart_in (sym t.3) ∙ chart_is_in i p in
      subst (λ (ws : List Lexeme). IsChart ws chart) (sym words)
      (subst (IsChart (word_lexeme (codes "chart") ∷ word_lexeme chart.name ∷ sign_lexeme (codes ";") ∷ (d.0 ++ (r.0 ++ t.0)))) whole
      (is_chart (word_lexeme (codes "chart")) (word_lexeme chart.name) (sign_lexeme (codes ";")) (scope_of p.declared) (scope_of p.drawn) chart.transitions
      chart_is (name_piece chart.name name) (name_is_short chart.name name) semicolon_is declared r.1 t.1))

pub chart_is_spelled : ChartIsSpelled
chart_is_spelled chart accepted held =
    let cut = every_chart_is_cut chart accepted (short_of chart accepted held) in
    let p = parsed chart accepted held _ cut.0 cut.2 in
    (cut.0, cut.1, subst (λ (ws : List Lexeme). IsChart ws chart) (sym cut.2) (spelled chart accepted _ p))

pub chart_is_read_back : ChartIsReadBack
chart_is_read_back chart tokens accepted held cut few = text_of_few_is_meant (chart_text chart) tokens chart cut few (chart_is_spelled chart accepted held)

-- ---- short texts

few_lexemes : (spans : List Span) (rest : List ℕ) → AreApart spans rest → length (lexemes_of spans) ≤ length (written spans)
few_lexemes [] rest apart = omega arith
few_lexemes (Span.gap bytes ∷ spans) rest apart = omega (arith, length-append bytes (written spans), few_lexemes spans rest apart.1)
few_lexemes (Span.token kind [] ∷ spans) rest apart = absurd apart.0
few_lexemes (Span.token kind (b ∷ bs) ∷ spans) rest apart = omega (arith, length-append (b ∷ bs) (written spans), few_lexemes spans rest apart.2)

pub short_text_is_read_back : ShortTextIsReadBack
short_text_is_read_back chart accepted held few =
    let short = short_of chart accepted held in
    let fits = chart_fits chart accepted short in
    let cut = every_chart_is_cut chart accepted short in
    let count : length cut.0 ≡ length (lexemes_of (chart_spans chart)) = sym (length-map cut.0 (lexeme_of (chart_text chart))) ∙ ap length cut.2 in
    let size = ap length fits.says in
    chart_is_read_back chart cut.0 accepted held cut.1
    (omega (arith, few, size, count, few_lexemes (chart_spans chart) [] (fits.apart [] tt)))
