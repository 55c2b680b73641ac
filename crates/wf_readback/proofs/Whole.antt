-- The rules of the reader read the whole of a canonical text.
use Rattle.std.proofs.Common.{◌≡◌, ℕ, ◌+◌, ◌-◌, ◌≤◌, true, List, [], ◌∷◌, ◌++◌, length, take, drop, flat_map, slice_get, map, Option, Some, None, Ok, refl, sym, ◌∙◌, ap, ap₂, subst, arith, append-nil, append_assoc}
use Rattle.std.specs.Option.{option_map}
use Rattle.std.proofs.lemmas.List.{take_all}
use lib.Chars.{codes}
use Rattle.wf_model.specs.Limits.{max_name, max_depth, max_open}
use Rattle.wf_model.specs.declared.ids.StateId.{StateId}
use Rattle.wf_model.specs.declared.chart.Kind.{Kind}
use Rattle.wf_model.specs.declared.chart.Kind.TheVariants as kinds
use Rattle.wf_model.specs.declared.chart.Event.{Event}
use Rattle.wf_model.specs.declared.chart.State.{State}
use Rattle.wf_model.specs.declared.chart.Chart.{Chart}
use Rattle.wf_model.specs.Names.{is_name}
use Rattle.wf_model.specs.Tree.{ancestors_by}
use Rattle.wf_model.specs.Accepted.{IsAccepted}
use Rattle.wf_semantics.proofs.Children.{item_at}
use Rattle.wf_semantics.proofs.Facts.{chart_of}
use Rattle.wf_lex.specs.declared.token.Token.{Token}
use Rattle.wf_cursor.specs.declared.piece.Piece.TheVariants as pieces
use Rattle.wf_cursor.specs.declared.names.Declared.TheVariants as declared_as_a
use Rattle.wf_cursor.specs.Pieces.{piece_of, word_piece}
use Rattle.wf_cursor.specs.Input as input
use Rattle.wf_cursor.specs.Input.{Input, start_of, chart_with, spelling, next}
use Rattle.wf_words.specs.Names.{unit_name}
use Rattle.wf_print.specs.Nested.{depth}
use Rattle.wf_text.specs.Text as text
use Rattle.wf_text.specs.Declarations.{declarations}
use Rattle.wf_text.specs.States as states
use Rattle.wf_text.specs.Transitions.{transitions}
use Rattle.wf_grammar.specs.Lexemes.{Lexeme, lexeme_of, lexemes}
use Rattle.wf_grammar.specs.Phrases.{Is}
use Rattle.wf_grammar.specs.Laws.{first_piece}
use Rattle.wf_grammar.proofs.Inputs.{here, spelling_here, next_here}
use Rattle.wf_readback.proofs.Spans.{Span, lexemes_of}
use Rattle.wf_readback.proofs.ChartSpans as spans
use Rattle.wf_readback.proofs.ChartSpans.{state_spans, transition_line, chart_spans, is_short}
use Rattle.wf_readback.proofs.ChartNames.{has_names, name_piece, name_is_short}
use Rattle.wf_readback.proofs.Known.{is_named_of}
use Rattle.wf_readback.proofs.Declares.{declared_from, state_of, names_before_states, all_names}
use Rattle.wf_readback.proofs.Order.{states_from, IsInOrder}
use Rattle.wf_readback.specs.Held.{is_held}
use Rattle.wf_readback.proofs.Reading.{declaration_lines}
use Rattle.wf_readback.proofs.New.{found_before}
use Rattle.wf_readback.proofs.Steps.{Made, made_of, At, Answers, one_token, name_here, expect_step, piece_at, left_at}
use Rattle.wf_readback.proofs.Pieces.{word_lexeme, sign_lexeme, semicolon_is}
use Rattle.wf_readback.proofs.Named.{has_fault, orders, after_vars, from_acts, names_are_declared}
use Rattle.wf_readback.proofs.Declarations.{HasUnits}
use Rattle.wf_readback.proofs.Loops.{start, with_acts, read_all, fault_is, remade, units_still}
use Rattle.wf_readback.proofs.States.{kind_bytes, kind_is, up_to, line_is, state_step}
use Rattle.wf_readback.proofs.Transitions.{regrouped, two_parts, transitions_step}
use Rattle.wf_readback.proofs.Fit.{all_fit}
use Rattle.wf_readback.proofs.Ordered.{states_are_in_order}
use Rattle.wf_readback.proofs.Short.{short_of}

pub chart_is : Is pieces.Chart (word_lexeme (codes "chart"))
unfolding piece_of word_piece
chart_is = refl

-- any name
name_reads : (i : Input) (t : Token) (rest : List Token) (at count : ℕ) → Is pieces.Name (lexeme_of i.text t) → length (lexeme_of i.text t).bytes ≤ max_name
    → input.name (here i (t ∷ rest) at count) ≡ Ok ((lexeme_of i.text t).bytes, here i rest (at + 1) count)
unfolding input.name
name_reads i t rest at count is short =
    rw (name_here i t rest at count is short) (ap₂ (λ (b : List ℕ) (k : Input). Ok (b, k)) (spelling_here i t rest at count) (next_here i t rest at count))

name_step : (i : Input) (name : List ℕ) (ws : List Lexeme) (m : Made) → is_name name ≡ true → At i (word_lexeme name ∷ ws) m → Answers (input.name i) name ws m
name_step i name ws m h at =
    one_token i (word_lexeme name) ws m input.name name at
    (λ t rest same.
    let is : Is pieces.Name (lexeme_of i.text t) = subst (λ (l : Lexeme). l.piece ≡ pieces.Name) (sym same) (name_piece name h) in
    let short : length (lexeme_of i.text t).bytes ≤ max_name = subst (λ (l : Lexeme). length l.bytes ≤ max_name) (sym same) (name_is_short name h) in
    name_reads i t rest i.at i.nodes is short ∙ ap (λ (l : Lexeme). Ok (l.bytes, here i rest (i.at + 1) i.nodes)) same)

text_end_step : (i : Input) (m : Made) → At i [] m → text.text_end i ≡ Ok (tt, i)
text_end_step i m at = rw (left_at i [] m at) refl

-- ---- the root

record Root (chart : Chart) : Type 0 where
  state : State
  there : slice_get chart.states 0 ≡ Some state
  is_or : state.kind ≡ kinds.Or
  is_top : state.parent ≡ None

none_from : (p : Option StateId) → option_map (λ q. q.0) p ≡ None → p ≡ None
none_from None h = refl
none_from (Some q) h = cc

root_of : (chart : Chart) → IsAccepted chart → Root chart
root_of chart accepted =
    let ok = chart_of chart accepted in
    let r = item_at chart.states 0 ok.some_state in
    record {
      state = r.0;
      there = r.1;
      is_or = (rw r.1 at ok.root_or);
      is_top = none_from r.0.parent (rw r.1 at ok.root_top);
    }

depth_root : (chart : Chart) → depth chart 0 ≡ 0
unfolding ancestors_by
depth_root chart = refl

-- ---- all parts

module _ (chart : Chart) where
  abbrev pub state_part : List Span
  state_part = state_spans chart max_depth 0 0

  abbrev pub transition_part : List Span
  transition_part = flat_map (transition_line chart) chart.transitions

  pub parts_are : lexemes_of (chart_spans chart)
      ≡ word_lexeme (codes "chart") ∷ word_lexeme chart.name ∷ sign_lexeme (codes ";") ∷ (lexemes_of (declaration_lines chart) ++ (lexemes_of state_part ++ lexemes_of transition_part))
  unfolding chart_spans
  parts_are =
      let first = spans.chart_line chart in
      let u = flat_map spans.unit_line chart.units in
      let e = flat_map (spans.event_line chart) (drop 1 chart.events) in
      let v = flat_map spans.var_line chart.vars in
      let a = flat_map (spans.activity_line chart) chart.acts in
      let rest = lexemes_of state_part ++ (lexemes_of transition_part ++ []) in
      let nothing : lexemes_of transition_part ++ [] ≡ lexemes_of transition_part = append-nil (lexemes_of transition_part) in
      let grouped : first ++ u ++ e ++ v ++ a ≡ first ++ declaration_lines chart =
      ap (λ (l : List Span). l ++ v ++ a) (append_assoc first u e) ∙ ap (λ (l : List Span). l ++ a) (append_assoc first (u ++ e) v) ∙ append_assoc first (u ++ e ++ v) a in
      sym (append-nil (lexemes_of (first ++ u ++ e ++ v ++ a ++ state_part ++ transition_part)))
      ∙ two_parts (first ++ u ++ e ++ v ++ a ++ state_part) transition_part []
      ∙ two_parts (first ++ u ++ e ++ v ++ a) state_part (lexemes_of transition_part ++ [])
      ∙ ap (λ (l : List Span). lexemes_of l ++ rest) grouped
      ∙ two_parts first (declaration_lines chart) rest
      ∙ ap (λ (ls : List Lexeme). lexemes_of first ++ (lexemes_of (declaration_lines chart) ++ (lexemes_of state_part ++ ls))) nothing

  units_before : (accepted : IsAccepted chart) → HasUnits chart (is_named_of chart accepted) (names_before_states chart)
  units_before accepted u h =
      found_before (after_vars chart) (from_acts chart) (unit_name chart u) (declared_as_a.Unit u) (units_still chart (is_named_of chart accepted) (orders chart accepted) u h)

  -- all that the chart has, over what the input had
  abbrev pub in_the_end : Input → Made
  in_the_end i = record (with_acts chart i) { states = chart.states; names = all_names chart }

  -- the inputs before the declarations, behind them, behind the root and at the end, and what the rules answer there
  pub record Parsed (i : Input) : Type 0 where
    pub before : Input
    pub declared : Input
    pub drawn : Input
    pub behind : Input
    pub begins : lexemes before ≡ lexemes_of (declaration_lines chart) ++ (lexemes_of state_part ++ lexemes_of transition_part)
    pub fresh : made_of before ≡ start before
    pub no_state : before.states ≡ []
    pub declarations_is : declarations before ≡ Ok (tt, declared)
    pub root_is : states.root declared ≡ Ok (tt, drawn)
    pub transitions_is : transitions drawn ≡ Ok (chart.transitions, behind)
    pub none_left : lexemes behind ≡ []
    pub made : made_of behind ≡ in_the_end before

  contents_step : IsAccepted chart → is_short chart ≡ true → IsInOrder chart → (i : Input) (m : Made) → At i (lexemes_of (chart_spans chart)) m
      → ((j : Input) → made_of j ≡ m → made_of j ≡ start j) → m.states ≡ [] → Parsed i
  unfolding states.root
  contents_step accepted short order i m at fresh empty =
      let named = is_named_of chart accepted in
      let o = orders chart accepted in
      let r = root_of chart accepted in
      let end = lexemes_of transition_part in
      let rest = lexemes_of state_part ++ end in
      let lines = lexemes_of (declaration_lines chart) ++ rest in
      let begins = regrouped i (lexemes_of (chart_spans chart)) (word_lexeme (codes "chart") ∷ word_lexeme chart.name ∷ sign_lexeme (codes ";") ∷ lines) m parts_are at in
      let a = expect_step pieces.Chart i (word_lexeme (codes "chart")) (word_lexeme chart.name ∷ sign_lexeme (codes ";") ∷ lines) m begins chart_is in
      let b = name_step a.behind chart.name (sign_lexeme (codes ";") ∷ lines) m (has_names chart named).own a.at in
      let c = expect_step pieces.Semicolon b.behind (sign_lexeme (codes ";")) lines m b.at semicolon_is in
      let head = line_is chart accepted o.states (units_before accepted) m (max_depth - 1) 0 0 r.state end r.there in
      let next_root : first_piece rest ≡ Some pieces.Or = ap first_piece head ∙ ap (λ (k : Kind). Some (word_lexeme (kind_bytes k)).piece) r.is_or ∙ ap Some (kind_is kinds.Or) in
      let fresh_at : At c.behind lines (start c.behind) = record { left = c.at.left; made = fresh c.behind c.at.made } in
      let d = read_all chart c.behind accepted short rest next_root fresh_at in
      let base = with_acts chart c.behind in
      let units = units_before accepted in
      let no_states : base ≡ up_to chart accepted o.states units base 0 =
      ap₂ (λ (xs : List State) ns. record base { states = xs; names = ns }) (ap (λ (k : Made). k.states) c.at.made ∙ empty) (sym (append-nil (names_before_states chart))) in
      let e = state_step chart accepted o.states units base max_depth 0 max_open 0 r.state None d.behind end refl (depth_root chart) (omega arith) r.there r.is_top order.0 (remade d.behind rest base _ no_states d.at) in
      let count = 0 + length (states_from chart max_depth 0) in
      let all : take count chart.states ≡ chart.states = take_all count chart.states (omega (arith, order.1)) in
      let all_made : up_to chart accepted o.states units base count ≡ in_the_end c.behind =
      ap (λ (xs : List State). record base { states = xs; names = names_before_states chart ++ declared_from (λ y. y.name) state_of 0 xs }) all in
      let g = transitions_step chart named (in_the_end c.behind) (names_are_declared chart accepted) chart.transitions e.behind (all_fit chart accepted short) (remade e.behind end _ (in_the_end c.behind) all_made e.at) in
      let root_ahead = piece_at d.behind rest base d.at ∙ next_root in
      record {
        before = c.behind;
        declared = d.behind;
        drawn = e.behind;
        behind = g.behind;
        begins = c.at.left;
        fresh = fresh c.behind c.at.made;
        no_state = ap (λ (k : Made). k.states) c.at.made ∙ empty;
        declarations_is = d.is;
        root_is = rw root_ahead (rw e.is refl);
        transitions_is = g.is;
        none_left = g.at.left;
        made = g.at.made;
      }

  -- the chart of all that was read
  pub chart_is_whole : IsAccepted chart → (i j : Input) → made_of j ≡ in_the_end i → chart_with chart.name chart.transitions j ≡ chart
  unfolding chart_with
  chart_is_whole accepted i j made =
      ap (λ (m : Made). let c : Chart = record { name = chart.name; units = m.units; events = m.events; vars = m.vars; acts = m.acts; states = m.states; transitions = chart.transitions } in c) made
      ∙ ap (λ (es : List Event). record chart { events = es }) (fault_is chart (has_fault chart accepted))

fresh_start : (text : List ℕ) (tokens : List Token) (j : Input) → made_of j ≡ made_of (start_of text tokens) → made_of j ≡ start j
unfolding start_of
fresh_start text tokens j made =
    made ∙ ap (λ (m : Made). let k : Made = record { text = m.text; units = []; events = record { name = codes "fault"; unit = None } ∷ []; vars = []; acts = []; states = m.states; names = (codes "fault", declared_as_a.Event (record { 0 = 0 })) ∷ [] } in k) (sym made)

no_states_yet : (text : List ℕ) (tokens : List Token) → (made_of (start_of text tokens)).states ≡ []
unfolding start_of
no_states_yet text tokens = refl

start_left : (text : List ℕ) (tokens : List Token) → lexemes (start_of text tokens) ≡ map (lexeme_of text) tokens
unfolding start_of
start_left text tokens = refl

-- where the tokens of a text are those of the chart's spans, the rules read the chart
pub parsed : (chart : Chart) → IsAccepted chart → is_held chart ≡ true → (text : List ℕ) (tokens : List Token) → map (lexeme_of text) tokens ≡ lexemes_of (chart_spans chart)
    → Parsed chart (start_of text tokens)
parsed chart accepted held text tokens same =
    let begins = start_of text tokens in
    contents_step chart accepted (short_of chart accepted held) (states_are_in_order chart accepted) begins (made_of begins) (record { left = start_left text tokens ∙ same; made = refl })
    (fresh_start text tokens) (no_states_yet text tokens)
