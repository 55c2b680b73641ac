-- The canonical text of a chart, span by span.
use Rattle.std.specs.Prelude.{ℕ, zero, suc, ◌+◌, ◌==◌, ◌++◌, Bool, true, false, ◌&&◌, List, [], ◌∷◌, length, drop, flat_map, slice_get, Option, None, Some, pos, negsuc}
use Rattle.std.specs.List.{list_all}
use Rattle.std.specs.Fmt.{decimal}
use lib.Chars.{codes}
use Rattle.wf_model.specs.Limits.{max_depth}
use Rattle.wf_model.specs.declared.ids.UnitId.{UnitId}
use Rattle.wf_model.specs.declared.ids.EventId.{EventId}
use Rattle.wf_model.specs.declared.value.Val.{Val}
use Rattle.wf_model.specs.declared.value.Val.TheVariants as v
use Rattle.wf_model.specs.declared.expr.Expr.{Expr}
use Rattle.wf_model.specs.declared.chart.Kind.{Kind}
use Rattle.wf_model.specs.declared.chart.Kind.TheVariants as kinds
use Rattle.wf_model.specs.declared.chart.Event.{Event}
use Rattle.wf_model.specs.declared.chart.Variable.{Variable}
use Rattle.wf_model.specs.declared.chart.Activity.{Activity}
use Rattle.wf_model.specs.declared.chart.State.{State}
use Rattle.wf_model.specs.declared.chart.Action.{Action}
use Rattle.wf_model.specs.declared.chart.Action.TheVariants as act
use Rattle.wf_model.specs.declared.chart.Transition.{Transition}
use Rattle.wf_model.specs.declared.chart.Chart.{Chart}
use Rattle.wf_model.specs.Tree.{children, list_from}
use Rattle.wf_model.specs.Accepted.{all_of}
use Rattle.wf_lex.specs.declared.token.TokenKind.TheVariants as token
use Rattle.wf_words.specs.Names.{unit_name, event_name, var_name, act_name, state_name}
use Rattle.wf_print.specs.Words.{truth_word, quoted, sort_word}
use Rattle.wf_print.specs.States.{indent}
use Rattle.wf_readback.specs.Held.{is_short_value}
use Rattle.wf_readback.proofs.Spans.{Span}
use Rattle.wf_readback.proofs.ExprSpans.{word, sign, blank, expr_spans, has_short_literals}

abbrev pub line_feed : Span
line_feed = Span.gap (codes "\n")

-- a word alone
abbrev pub one : List ℕ → List Span
one bytes = word bytes ∷ []

-- a word, and a blank behind it
abbrev pub first : List ℕ → List Span
first bytes = word bytes ∷ blank ∷ []

-- a word between blanks
abbrev pub between : List ℕ → List Span
between bytes = blank ∷ word bytes ∷ blank ∷ []

-- a sign between blanks
abbrev pub parting : List ℕ → List Span
parting bytes = blank ∷ sign bytes ∷ blank ∷ []

-- the end of a line
abbrev pub line_end : List Span
line_end = sign (codes ";") ∷ line_feed ∷ []

abbrev pub literal_spans : Val → List Span
literal_spans (v.Bool b) = one (truth_word b)
literal_spans (v.Int (pos n)) = Span.token token.Int (decimal n) ∷ []
literal_spans (v.Int (negsuc n)) = (sign (codes "-") ∷ blank ∷ []) ++ Span.token token.Int (decimal (suc n)) ∷ []
literal_spans (v.Text t) = Span.token token.Text (quoted t) ∷ []

-- what f makes of each, a comma before each
abbrev pub behind_commas : {A : Type 0} → (A → List Span) → List A → List Span
behind_commas f xs = flat_map (λ x. (sign (codes ",") ∷ blank ∷ []) ++ f x) xs

-- what f makes of each, with commas between them, behind the opening; nothing where there is none
abbrev pub listed : {A : Type 0} → List Span → (A → List Span) → List A → List Span
listed opening f [] = []
listed opening f (x ∷ xs) = opening ++ f x ++ behind_commas f xs

-- ---- declarations

abbrev pub chart_line : Chart → List Span
chart_line chart = first (codes "chart") ++ one chart.name ++ line_end

abbrev pub unit_line : List ℕ → List Span
unit_line name = first (codes "unit") ++ one name ++ line_end

abbrev pub place : Chart → UnitId → List Span
place chart unit = between (codes "at") ++ one (unit_name chart unit)

abbrev pub place_of : Chart → Option UnitId → List Span
place_of chart None = []
place_of chart (Some unit) = place chart unit

abbrev pub event_line : Chart → Event → List Span
event_line chart event = first (codes "event") ++ one event.name ++ place_of chart event.unit ++ line_end

abbrev pub var_line : Variable → List Span
var_line x = first (codes "var") ++ one x.name ++ parting (codes ":") ++ one (sort_word x.sort) ++ parting (codes "=") ++ literal_spans x.first ++ line_end

abbrev pub activity_line : Chart → Activity → List Span
activity_line chart a =
    first (codes "activity") ++ one a.name ++ place chart a.unit ++ listed (between (codes "gives")) (λ x. one (var_name chart x)) a.outputs ++ line_end

-- ---- transitions

abbrev pub action_spans : Chart → Action → List Span
action_spans chart (act.Assign x value) = one (var_name chart x) ++ parting (codes ":=") ++ expr_spans chart value
action_spans chart (act.Raise event) = first (codes "raise") ++ one (event_name chart event)
action_spans chart (act.Start a) = first (codes "start") ++ one (act_name chart a)

abbrev pub ends : Chart → Transition → List Span
ends chart t = first (codes "from") ++ one (state_name chart t.source) ++ between (codes "to") ++ one (state_name chart t.target)

abbrev pub trigger : Chart → Option EventId → List Span
trigger chart event = list_from (λ e. between (codes "on") ++ one (event_name chart e)) event

abbrev pub condition : Chart → Option Expr → List Span
condition chart guard = list_from (λ x. between (codes "if") ++ expr_spans chart x) guard

abbrev pub transition_line : Chart → Transition → List Span
transition_line chart t =
    ends chart t ++ trigger chart t.event ++ condition chart t.guard ++ listed (between (codes "do")) (action_spans chart) t.actions ++ line_end

-- ---- states

abbrev pub kind_spans : Kind → List Span
kind_spans kinds.Basic = first (codes "basic")
kind_spans kinds.Or = first (codes "or")
kind_spans kinds.And = first (codes "and")

abbrev pub state_head : Chart → State → List Span
state_head chart state = kind_spans state.kind ++ one state.name ++ place chart state.unit

abbrev pub opening : Chart → ℕ → State → List Span
opening chart depth state = (Span.gap (indent depth) ∷ []) ++ state_head chart state

abbrev pub closing : ℕ → List Span
closing depth = (Span.gap (indent depth) ∷ []) ++ sign (codes "}") ∷ line_feed ∷ []

abbrev pub body : ℕ → Bool → List Span → List Span
body depth true inside = line_end
body depth false inside = (blank ∷ sign (codes "{") ∷ line_feed ∷ []) ++ inside ++ closing depth

unfoldable pub state_spans : Chart → ℕ → ℕ → ℕ → List Span
state_spans chart zero depth s = []
state_spans chart (suc levels) depth s =
    list_from
    (λ state. opening chart depth state ++ body depth (length (children chart s) == 0) (flat_map (state_spans chart levels (depth + 1)) (children chart s)))
    (slice_get chart.states s)

-- ---- the whole

unfoldable pub chart_spans : Chart → List Span
chart_spans chart =
    chart_line chart ++ flat_map unit_line chart.units ++ flat_map (event_line chart) (drop 1 chart.events)
    ++ flat_map var_line chart.vars ++ flat_map (activity_line chart) chart.acts ++ state_spans chart max_depth 0 0
    ++ flat_map (transition_line chart) chart.transitions

-- ---- literals that can be read: each Int of an expression is at most max_int, each first value is short, and each Text is one of
-- at most max_text text characters

abbrev pub is_short_action : Action → Bool
is_short_action (act.Assign x value) = has_short_literals value
is_short_action _ = true

abbrev pub is_short_transition : Transition → Bool
is_short_transition t = all_of has_short_literals t.guard && list_all is_short_action t.actions

unfoldable pub is_short : Chart → Bool
is_short c = list_all (λ x. is_short_value x.first) c.vars && list_all is_short_transition c.transitions
