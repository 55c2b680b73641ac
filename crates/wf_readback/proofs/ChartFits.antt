-- The spans of a chart are its canonical text, and none of its tokens runs into the next one.
use Rattle.std.proofs.Common.{◌≡◌, ℕ, zero, suc, ◌+◌, ◌*◌, ◌^◌, ◌<◌, ◌==◌, ◌&&◌, Bool, true, false, nat_lt, nat_le, List, [], ◌∷◌, ◌++◌, length, get_or, flat_map, map, drop, Option, Some, None, pos, negsuc, refl, sym, ◌∙◌, ap, subst, arith, append-nil}
use Rattle.std.specs.List.{list_all}
use Rattle.std.specs.Fmt.{decimal}
use lib.Chars.{codes}
use Rattle.wf_model.specs.Limits.{max_depth, max_text}
use Rattle.wf_model.specs.declared.ids.UnitId.{UnitId}
use Rattle.wf_model.specs.declared.ids.EventId.{EventId}
use Rattle.wf_model.specs.declared.ids.VarId.{VarId}
use Rattle.wf_model.specs.declared.value.Sort.{Sort}
use Rattle.wf_model.specs.declared.value.Sort.TheVariants as sorts
use Rattle.wf_model.specs.declared.value.Val.{Val}
use Rattle.wf_model.specs.declared.value.Val.TheVariants as v
use Rattle.wf_model.specs.declared.expr.Expr.{Expr}
use Rattle.wf_model.specs.declared.chart.Kind.{Kind}
use Rattle.wf_model.specs.declared.chart.Kind.TheVariants as kinds
use Rattle.wf_model.specs.declared.chart.Event.{Event}
use Rattle.wf_model.specs.declared.chart.Variable.{Variable}
use Rattle.wf_model.specs.declared.chart.Activity.{Activity}
use Rattle.wf_model.specs.declared.chart.State.{State}
use Rattle.wf_model.specs.declared.chart.Action.{Action}
use Rattle.wf_model.specs.declared.chart.Action.TheVariants as act
use Rattle.wf_model.specs.declared.chart.Transition.{Transition}
use Rattle.wf_model.specs.declared.chart.Chart.{Chart}
use Rattle.wf_model.specs.Names.{is_word, is_name}
use Rattle.wf_model.specs.Txt.{is_text}
use Rattle.wf_model.specs.Tree.{children}
use Rattle.wf_model.specs.Accepted.{IsAccepted, is_named, all_of, is_unit, is_known_expr, is_known_action, is_known_activity, is_known_transition}
use Rattle.wf_model.proofs.Bools.{and_both}
use Rattle.wf_lex.specs.declared.token.TokenKind.TheVariants as token
use Rattle.wf_lex.specs.Lex.{token_at}
use Rattle.wf_lex.specs.Slices.{IsToken}
use Rattle.wf_words.specs.Names.{unit_name, event_name, var_name, act_name, state_name}
use Rattle.wf_print.specs.Words as words
use Rattle.wf_print.specs.Words.{truth_word, quoted, sort_word, kind_word, literal}
use Rattle.wf_print.specs.Expressions.{expr_text}
use Rattle.wf_print.specs.Declarations as decl
use Rattle.wf_print.specs.States as states
use Rattle.wf_print.specs.States.{indent, state_text}
use Rattle.wf_print.specs.Transitions as trans
use Rattle.wf_print.specs.Transitions.{action_text, transition_line}
use Rattle.wf_print.specs.ChartText.{chart_text}
use Rattle.wf_grammar.specs.Lexemes.{lexeme_of}
use Rattle.wf_readback.specs.Cuts.{IsCut}
use Rattle.wf_readback.proofs.Spans.{Span}
use Rattle.wf_readback.proofs.ExprSpans.{sign, blank, expr_spans, has_short_literals}
use Rattle.wf_readback.proofs.ChartSpans as spans
use Rattle.wf_readback.specs.Held.{is_short_value}
use Rattle.wf_readback.proofs.ChartSpans.{one, first, between, parting, line_end, literal_spans, action_spans, kind_spans, state_spans, chart_spans, is_short_action, is_short_transition, is_short}
use Rattle.wf_readback.proofs.Canon.{EveryChartIsCut}
use Rattle.wf_readback.proofs.Written.{expr_is_written}
use Rattle.wf_readback.proofs.Literals.{decimal_is}
use Rattle.wf_readback.proofs.ChartNames.{HasNames, has_names, name_is_word, below, unit_named, event_named, var_named, act_named, state_named}
use Rattle.wf_readback.proofs.Known.{is_named_of, all_both, all_behind, known, IsKnown}
use Rattle.wf_readback.proofs.Apart.{expr_is_apart, digits_token, text_token, no_digit}
use Rattle.wf_readback.proofs.Cut.{every_written_is_cut}
use Rattle.wf_readback.proofs.SpanFits.{Fits, none, join, three, four, five, each, found, word_fits, first_fits, between_fits, parting_fits, line_end_fits, comma_fits, minus_fits, open_brace_fits, close_brace_fits, indent_fits}

colon_token : IsToken token.Sign (codes ":") []
unfolding token_at
colon_token = refl

equals_token : IsToken token.Sign (codes "=") []
unfolding token_at
equals_token = refl

assign_token : IsToken token.Sign (codes ":=") []
unfolding token_at
assign_token = refl

name_fits : (name : List ℕ) → is_name name ≡ true → Fits false true (one name) name
name_fits name h = word_fits name (name_is_word name h)

-- ---- literals

number_fits : (n : ℕ) → n < 2 ^ 64 → Fits false true (Span.token token.Int (decimal n) ∷ []) (decimal n)
number_fits n small =
    let is = decimal_is n small in
    record { says = append-nil (decimal n); apart = λ rest e. (digits_token (decimal n) is.all is.some, no_digit (get_or rest 0 0) e, tt); begins = λ rest e. tt }

quoted_fits : (t : List ℕ) → is_text t ≡ true → Fits false true (Span.token token.Text (quoted t) ∷ []) (quoted t)
quoted_fits t h = record { says = append-nil (quoted t); apart = λ rest e. (text_token t h, refl, tt); begins = λ rest e. tt }

literal_fits : (value : Val) → is_short_value value ≡ true → Fits false true (literal_spans value) (literal value)
literal_fits (v.Bool true) h = word_fits (codes "true") refl
literal_fits (v.Bool false) h = word_fits (codes "false") refl
literal_fits (v.Int (pos n)) h = let small = below n (2 ^ 63) h in number_fits n (omega (arith, small))
literal_fits (v.Int (negsuc n)) h =
    let small = below n (2 ^ 63) h in
    join (sign (codes "-") ∷ blank ∷ []) (Span.token token.Int (decimal (suc n)) ∷ []) (codes "- ") (decimal (suc n)) minus_fits (number_fits (suc n) (omega (arith, small)))
literal_fits (v.Text t) h = quoted_fits t (and_both (is_text t) (nat_le (length t) max_text) h).0

sort_fits : (sort : Sort) → Fits false true (one (sort_word sort)) (sort_word sort)
sort_fits sorts.Bool = word_fits (codes "bool") refl
sort_fits sorts.Int = word_fits (codes "int") refl
sort_fits sorts.Text = word_fits (codes "text") refl

kind_fits : (k : Kind) → Fits false false (kind_spans k) (kind_word k)
kind_fits kinds.Basic = first_fits (codes "basic") refl
kind_fits kinds.Or = first_fits (codes "or") refl
kind_fits kinds.And = first_fits (codes "and") refl

-- items with commas between them
listed_fits : {A : Type 0} (w : List ℕ) (test : A → Bool) (s : A → List Span) (t : A → List ℕ) (xs : List A) → is_word w ≡ true → list_all test xs ≡ true
    → ((x : A) → test x ≡ true → Fits false true (s x) (t x)) → Fits true true (spans.listed (between w) s xs) (words.listed (32 ∷ (w ++ codes " ")) t xs)
listed_fits w test s t [] is h item = none true
listed_fits w test s t (x ∷ xs) is h item =
    let p = and_both (test x) (list_all test xs) h in
    three (between w) (s x) (spans.behind_commas s xs) (32 ∷ (w ++ codes " ")) (t x) (words.behind_commas t xs) (between_fits w is) (item x p.0)
    (each true test (λ y. (sign (codes ",") ∷ blank ∷ []) ++ s y) (λ y. codes ", " ++ t y) xs p.1
    (λ y passes. join (sign (codes ",") ∷ blank ∷ []) (s y) (codes ", ") (t y) comma_fits (item y passes)))

-- ---- lines

unit_line_fits : (name : List ℕ) → is_name name ≡ true → Fits false false (spans.unit_line name) (decl.unit_line name)
unit_line_fits name h = three (first (codes "unit")) (one name) line_end (codes "unit ") name (codes ";\n") (first_fits (codes "unit") refl) (name_fits name h) line_end_fits

var_line_fits : (x : Variable) → is_name x.name ≡ true → is_short_value x.first ≡ true → Fits false false (spans.var_line x) (decl.var_line x)
var_line_fits x h short =
    let before = first (codes "var") ++ one x.name ++ parting (codes ":") ++ one (sort_word x.sort) ++ parting (codes "=") in
    let before_text = codes "var " ++ x.name ++ codes " : " ++ sort_word x.sort ++ codes " = " in
    three before (literal_spans x.first) line_end before_text (literal x.first) (codes ";\n")
    (five (first (codes "var")) (one x.name) (parting (codes ":")) (one (sort_word x.sort)) (parting (codes "="))
    (codes "var ") x.name (codes " : ") (sort_word x.sort) (codes " = ")
    (first_fits (codes "var") refl) (name_fits x.name h) (parting_fits (codes ":") colon_token refl) (sort_fits x.sort) (parting_fits (codes "=") equals_token refl))
    (literal_fits x.first short) line_end_fits

module _ (chart : Chart) (named : is_named chart ≡ true) where
  chart_line_fits : Fits false false (spans.chart_line chart) (decl.chart_line chart)
  chart_line_fits =
      three (first (codes "chart")) (one chart.name) line_end (codes "chart ") chart.name (codes ";\n")
      (first_fits (codes "chart") refl) (name_fits chart.name (has_names chart named).own) line_end_fits

  place_fits : (u : UnitId) → is_unit chart u ≡ true → Fits true true (spans.place chart u) (decl.place chart u)
  place_fits u h = join (between (codes "at")) (one (unit_name chart u)) (codes " at ") (unit_name chart u) (between_fits (codes "at") refl) (name_fits (unit_name chart u) (unit_named chart named u h))

  place_of_fits : (u : Option UnitId) → all_of (is_unit chart) u ≡ true → Fits true true (spans.place_of chart u) (decl.place_of chart u)
  place_of_fits None h = none true
  place_of_fits (Some u) h = place_fits u h

  event_line_fits : (x : Event) → (is_name x.name && all_of (is_unit chart) x.unit) ≡ true → Fits false false (spans.event_line chart x) (decl.event_line chart x)
  event_line_fits x h =
      let p = and_both (is_name x.name) (all_of (is_unit chart) x.unit) h in
      four (first (codes "event")) (one x.name) (spans.place_of chart x.unit) line_end (codes "event ") x.name (decl.place_of chart x.unit) (codes ";\n")
      (first_fits (codes "event") refl) (name_fits x.name p.0) (place_of_fits x.unit p.1) line_end_fits

  activity_line_fits : (x : Activity) → (is_name x.name && is_known_activity chart x) ≡ true → Fits false false (spans.activity_line chart x) (decl.activity_line chart x)
  activity_line_fits x h =
      let p = and_both (is_name x.name) (is_known_activity chart x) h in
      let q = and_both (is_unit chart x.unit) (list_all (λ y. nat_lt y.0 (length chart.vars)) x.outputs) p.1 in
      five (first (codes "activity")) (one x.name) (spans.place chart x.unit) (spans.listed (between (codes "gives")) (λ y. one (var_name chart y)) x.outputs) line_end
      (codes "activity ") x.name (decl.place chart x.unit) (words.listed (codes " gives ") (var_name chart) x.outputs) (codes ";\n")
      (first_fits (codes "activity") refl) (name_fits x.name p.0) (place_fits x.unit q.0)
      (listed_fits (codes "gives") (λ (y : VarId). nat_lt y.0 (length chart.vars)) (λ (y : VarId). one (var_name chart y)) (var_name chart) x.outputs refl q.1
      (λ y passes. name_fits (var_name chart y) (var_named chart named y passes)))
      line_end_fits

  -- transitions

  expr_fits : (x : Expr) → is_known_expr chart x ≡ true → has_short_literals x ≡ true → Fits false true (expr_spans chart x) (expr_text chart x)
  expr_fits x known short = record {
    says = expr_is_written chart x;
    apart = λ rest e. expr_is_apart chart x rest named known short e;
    begins = λ rest e. tt;
  }

  action_fits : (x : Action) → (is_known_action chart x && is_short_action x) ≡ true → Fits false true (action_spans chart x) (action_text chart x)
  action_fits (act.Assign x value) h =
      let p = and_both (nat_lt x.0 (length chart.vars) && is_known_expr chart value) (has_short_literals value) h in
      let q = and_both (nat_lt x.0 (length chart.vars)) (is_known_expr chart value) p.0 in
      three (one (var_name chart x)) (parting (codes ":=")) (expr_spans chart value) (var_name chart x) (codes " := ") (expr_text chart value)
      (name_fits (var_name chart x) (var_named chart named x q.0)) (parting_fits (codes ":=") assign_token refl) (expr_fits value q.1 p.1)
  action_fits (act.Raise event) h =
      let p = and_both (nat_lt event.0 (length chart.events)) true h in
      join (first (codes "raise")) (one (event_name chart event)) (codes "raise ") (event_name chart event) (first_fits (codes "raise") refl) (name_fits (event_name chart event) (event_named chart named event p.0))
  action_fits (act.Start a) h =
      let p = and_both (nat_lt a.0 (length chart.acts)) true h in
      join (first (codes "start")) (one (act_name chart a)) (codes "start ") (act_name chart a) (first_fits (codes "start") refl) (name_fits (act_name chart a) (act_named chart named a p.0))

  trigger_fits : (x : Option EventId) → all_of (λ event. nat_lt event.0 (length chart.events)) x ≡ true → Fits true true (spans.trigger chart x) (trans.trigger chart x)
  trigger_fits None h = none true
  trigger_fits (Some x) h = join (between (codes "on")) (one (event_name chart x)) (codes " on ") (event_name chart x) (between_fits (codes "on") refl) (name_fits (event_name chart x) (event_named chart named x h))

  condition_fits : (x : Option Expr) → all_of (is_known_expr chart) x ≡ true → all_of has_short_literals x ≡ true → Fits true true (spans.condition chart x) (trans.condition chart x)
  condition_fits None h short = none true
  condition_fits (Some x) h short = join (between (codes "if")) (expr_spans chart x) (codes " if ") (expr_text chart x) (between_fits (codes "if") refl) (expr_fits x h short)

  ends_fits : (t : Transition) → nat_lt t.source.0 (length chart.states) ≡ true → nat_lt t.target.0 (length chart.states) ≡ true → Fits false true (spans.ends chart t) (trans.ends chart t)
  ends_fits t source target =
      four (first (codes "from")) (one (state_name chart t.source)) (between (codes "to")) (one (state_name chart t.target))
      (codes "from ") (state_name chart t.source) (codes " to ") (state_name chart t.target)
      (first_fits (codes "from") refl) (name_fits (state_name chart t.source) (state_named chart named t.source source))
      (between_fits (codes "to") refl) (name_fits (state_name chart t.target) (state_named chart named t.target target))

  transition_line_fits : (t : Transition) → (is_known_transition chart t && is_short_transition t) ≡ true → Fits false false (spans.transition_line chart t) (transition_line chart t)
  unfolding transition_line
  transition_line_fits t h =
      let source = nat_lt t.source.0 (length chart.states) in
      let target = nat_lt t.target.0 (length chart.states) in
      let event = all_of (λ event. nat_lt event.0 (length chart.events)) t.event in
      let guard = all_of (is_known_expr chart) t.guard in
      let actions = list_all (is_known_action chart) t.actions in
      let both = and_both (is_known_transition chart t) (is_short_transition t) h in
      let short = and_both (all_of has_short_literals t.guard) (list_all is_short_action t.actions) both.1 in
      let a = and_both (source && target && event && guard) actions both.0 in
      let b = and_both (source && target && event) guard a.0 in
      let c = and_both (source && target) event b.0 in
      let d = and_both source target c.0 in
      five (spans.ends chart t) (spans.trigger chart t.event) (spans.condition chart t.guard) (spans.listed (between (codes "do")) (action_spans chart) t.actions) line_end
      (trans.ends chart t) (trans.trigger chart t.event) (trans.condition chart t.guard) (words.listed (codes " do ") (action_text chart) t.actions) (codes ";\n")
      (ends_fits t d.0 d.1) (trigger_fits t.event c.1) (condition_fits t.guard b.1 short.0)
      (listed_fits (codes "do") (λ x. is_known_action chart x && is_short_action x) (action_spans chart) (action_text chart) t.actions refl
      (all_both (is_known_action chart) is_short_action t.actions a.1 short.1) action_fits)
      line_end_fits

  -- states

  opening_fits : (depth : ℕ) (s : State) → (is_name s.name && is_unit chart s.unit) ≡ true → Fits false true (spans.opening chart depth s) (states.opening chart depth s)
  opening_fits depth s h =
      let p = and_both (is_name s.name) (is_unit chart s.unit) h in
      join (Span.gap (indent depth) ∷ []) (spans.state_head chart s) (indent depth) (states.state_head chart s) (indent_fits (2 * depth))
      (three (kind_spans s.kind) (one s.name) (spans.place chart s.unit) (kind_word s.kind) s.name (decl.place chart s.unit) (kind_fits s.kind) (name_fits s.name p.0) (place_fits s.unit p.1))

  body_fits : (depth : ℕ) (leaf : Bool) (inside : List Span) (text : List ℕ) → Fits false false inside text → Fits true false (spans.body depth leaf inside) (states.body depth leaf text)
  body_fits depth true inside text h = line_end_fits
  body_fits depth false inside text h =
      three (blank ∷ sign (codes "{") ∷ spans.line_feed ∷ []) inside (spans.closing depth) (codes " {\n") text (states.closing depth) open_brace_fits h
      (join (Span.gap (indent depth) ∷ []) (sign (codes "}") ∷ spans.line_feed ∷ []) (indent depth) (codes "}\n") (indent_fits (2 * depth)) close_brace_fits)

  all_pass : {A : Type 0} (xs : List A) → list_all (λ _. true) xs ≡ true
  all_pass [] = refl
  all_pass (x ∷ xs) = all_pass xs

  state_fits : (levels depth s : ℕ) → list_all (λ x. is_name x.name && is_unit chart x.unit) chart.states ≡ true → Fits false false (state_spans chart levels depth s) (state_text chart levels depth s)
  unfolding state_text state_spans
  state_fits zero depth s all = none false
  state_fits (suc levels) depth s all =
      let inside = flat_map (state_spans chart levels (depth + 1)) (children chart s) in
      let text = flat_map (state_text chart levels (depth + 1)) (children chart s) in
      let leaf = length (children chart s) == 0 in
      found false (λ x. is_name x.name && is_unit chart x.unit) (λ x. spans.opening chart depth x ++ spans.body depth leaf inside) (λ x. states.opening chart depth x ++ states.body depth leaf text) chart.states s all
      (λ x h. join (spans.opening chart depth x) (spans.body depth leaf inside) (states.opening chart depth x) (states.body depth leaf text) (opening_fits depth x h)
      (body_fits depth leaf inside text
      (each false (λ _. true) (state_spans chart levels (depth + 1)) (state_text chart levels (depth + 1)) (children chart s) (all_pass (children chart s)) (λ k passes. state_fits levels (depth + 1) k all))))

  -- the whole

  whole : HasNames chart → IsKnown chart → is_short chart ≡ true → Fits false false (chart_spans chart) (chart_text chart)
  unfolding chart_text chart_spans is_short
  whole names has h =
      let short = and_both (list_all (λ x. is_short_value x.first) chart.vars) (list_all is_short_transition chart.transitions) h in
      let units = flat_map spans.unit_line chart.units in
      let events = flat_map (spans.event_line chart) (drop 1 chart.events) in
      let vars = flat_map spans.var_line chart.vars in
      let acts = flat_map (spans.activity_line chart) chart.acts in
      let nested = state_spans chart max_depth 0 0 in
      let transitions = flat_map (spans.transition_line chart) chart.transitions in
      let units_text = flat_map decl.unit_line chart.units in
      let events_text = flat_map (decl.event_line chart) (drop 1 chart.events) in
      let vars_text = flat_map decl.var_line chart.vars in
      let acts_text = flat_map (decl.activity_line chart) chart.acts in
      let nested_text = state_text chart max_depth 0 0 in
      let transitions_text = flat_map (transition_line chart) chart.transitions in
      three (spans.chart_line chart ++ units ++ events ++ vars ++ acts) nested transitions (decl.chart_line chart ++ units_text ++ events_text ++ vars_text ++ acts_text) nested_text transitions_text
      (five (spans.chart_line chart) units events vars acts (decl.chart_line chart) units_text events_text vars_text acts_text
      chart_line_fits
      (each false (λ x. is_name x) spans.unit_line decl.unit_line chart.units names.units unit_line_fits)
      (each false (λ x. is_name x.name && all_of (is_unit chart) x.unit) (spans.event_line chart) (decl.event_line chart) (drop 1 chart.events)
      (all_behind (λ x. is_name x.name && all_of (is_unit chart) x.unit) chart.events (all_both (λ x. is_name x.name) (λ x. all_of (is_unit chart) x.unit) chart.events names.events has.events))
      event_line_fits)
      (each false (λ x. is_name x.name && is_short_value x.first) spans.var_line decl.var_line chart.vars
      (all_both (λ x. is_name x.name) (λ x. is_short_value x.first) chart.vars names.vars short.0)
      (λ x p. let q = and_both (is_name x.name) (is_short_value x.first) p in var_line_fits x q.0 q.1))
      (each false (λ x. is_name x.name && is_known_activity chart x) (spans.activity_line chart) (decl.activity_line chart) chart.acts
      (all_both (λ x. is_name x.name) (is_known_activity chart) chart.acts names.acts has.acts) activity_line_fits))
      (state_fits max_depth 0 0 (all_both (λ x. is_name x.name) (λ x. is_unit chart x.unit) chart.states names.states has.states))
      (each false (λ x. is_known_transition chart x && is_short_transition x) (spans.transition_line chart) (transition_line chart) chart.transitions
      (all_both (is_known_transition chart) is_short_transition chart.transitions has.transitions short.1) transition_line_fits)

pub chart_fits : (chart : Chart) → IsAccepted chart → is_short chart ≡ true → Fits false false (chart_spans chart) (chart_text chart)
chart_fits chart ok short = let named = is_named_of chart ok in whole chart named (has_names chart named) (known chart ok) short

pub every_chart_is_cut : EveryChartIsCut
every_chart_is_cut chart ok short =
    let fits = chart_fits chart ok short in
    let found = every_written_is_cut (chart_spans chart) (fits.apart [] tt) in
    (found.0, subst (λ t. IsCut t found.0) fits.says found.1, ap (λ t. map (lexeme_of t) found.0) (sym fits.says) ∙ found.2)
