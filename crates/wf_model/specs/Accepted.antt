-- Which charts are accepted. Each rule is a test, and a chart is accepted where all of them pass.
use Rattle.std.specs.Prelude.{◌≡◌, ℕ, ◌+◌, ◌-◌, ◌==◌, ◌&&◌, ◌||◌, not, nat_lt, nat_le, Bool, true, false, List, [], ◌∷◌, ◌++◌, length, map, take, Option, Some, None, is_none, Result, Ok, Err, IsTrue}
use Rattle.std.specs.List.{list_all, list_any, enumerate_from}
use Rattle.std.specs.Option.{option_map_or}
use Rattle.std.specs.Str.{bytes_eq}
use lib.Chars.{codes}
use Rattle.wf_model.specs.Limits.{max_units, max_events, max_vars, max_acts, max_states, max_transitions, max_actions, max_outputs, max_nodes, max_depth}
use Rattle.wf_model.specs.declared.ids.VarId.{VarId}
use Rattle.wf_model.specs.declared.ids.UnitId.{UnitId}
use Rattle.wf_model.specs.declared.ids.StateId.{StateId}
use Rattle.wf_model.specs.declared.ids.EventId.{EventId}
use Rattle.wf_model.specs.declared.chart.Chart.{Chart}
use Rattle.wf_model.specs.declared.chart.State.{State}
use Rattle.wf_model.specs.declared.chart.Transition.{Transition}
use Rattle.wf_model.specs.declared.chart.Variable.{Variable}
use Rattle.wf_model.specs.declared.chart.Event.{Event}
use Rattle.wf_model.specs.declared.chart.Activity.{Activity}
use Rattle.wf_model.specs.declared.chart.Action.{Action}
use Rattle.wf_model.specs.declared.chart.Action.TheVariants as act
use Rattle.wf_model.specs.declared.chart.Kind.{Kind}
use Rattle.wf_model.specs.declared.chart.Kind.TheVariants as kinds
use Rattle.wf_model.specs.declared.value.Sort.{Sort}
use Rattle.wf_model.specs.declared.value.Sort.TheVariants as sorts
use Rattle.wf_model.specs.declared.expr.TypeFault.{TypeFault}
use Rattle.wf_model.specs.declared.expr.Expr.{Expr, end_of-Expr, more_of-Expr}
use Rattle.wf_model.specs.declared.expr.Expr.TheVariants as e
use Rattle.wf_model.specs.Names.{is_name}
use Rattle.wf_model.specs.Tree.{kind, is_or, ancestors, is_above, is_child_of, parent_of}
use Rattle.wf_model.specs.Sorts.{sort_of, var_sort, alike}
use Rattle.wf_model.specs.Seen.{val_sort}

-- each item passes with its number
abbrev pub all_numbered : {A : Type 0} → (ℕ → A → Bool) → List A → Bool
all_numbered test xs = list_all (λ p. test p.0 p.1) (enumerate_from 0 xs)

-- the value passes, where there is one
abbrev pub all_of : {A : Type 0} → (A → Bool) → Option A → Bool
all_of test o = option_map_or test o true

-- how many nodes an expression has
abbrev pub nodes : Expr → ℕ
nodes (e.Not' p (more_of-Expr x end_of-Expr)) = nodes x + 1
nodes (e.Neg' p (more_of-Expr x end_of-Expr)) = nodes x + 1
nodes (e.Bin' op p (more_of-Expr x end_of-Expr) q (more_of-Expr y end_of-Expr)) = nodes x + nodes y + 1
nodes _ = 1

-- LIMITS

abbrev pub is_small_action : Action → Bool
is_small_action (act.Assign x value) = nat_le (nodes value) max_nodes
is_small_action (act.Raise event) = true
is_small_action (act.Start a) = true

abbrev pub is_small_transition : Transition → Bool
is_small_transition t =
    all_of (λ guard. nat_le (nodes guard) max_nodes) t.guard && nat_le (length t.actions) max_actions && list_all is_small_action t.actions

-- each quantity is within its limit
unfoldable pub is_small : Chart → Bool
is_small c =
    nat_le (length c.units) max_units && nat_le (length c.events) max_events && nat_le (length c.vars) max_vars
    && nat_le (length c.acts) max_acts && nat_le (length c.states) max_states && nat_le (length c.transitions) max_transitions
    && list_all (λ a. nat_le (length a.outputs) max_outputs) c.acts && list_all is_small_transition c.transitions

-- NUMBERS

-- the numbers that an expression names are those of parts of the chart
abbrev pub is_known_expr : Chart → Expr → Bool
is_known_expr c (e.Bool b) = true
is_known_expr c (e.Int n) = true
is_known_expr c (e.Text t) = true
is_known_expr c (e.Var x) = nat_lt x.0 (length c.vars)
is_known_expr c (e.In s) = nat_lt s.0 (length c.states)
is_known_expr c (e.Count a) = nat_lt a.0 (length c.acts)
is_known_expr c (e.Done a) = nat_lt a.0 (length c.acts)
is_known_expr c (e.Not' p (more_of-Expr x end_of-Expr)) = is_known_expr c x
is_known_expr c (e.Neg' p (more_of-Expr x end_of-Expr)) = is_known_expr c x
is_known_expr c (e.Bin' op p (more_of-Expr x end_of-Expr) q (more_of-Expr y end_of-Expr)) = is_known_expr c x && is_known_expr c y

abbrev pub is_known_action : Chart → Action → Bool
is_known_action c (act.Assign x value) = nat_lt x.0 (length c.vars) && is_known_expr c value
is_known_action c (act.Raise event) = nat_lt event.0 (length c.events)
is_known_action c (act.Start a) = nat_lt a.0 (length c.acts)

abbrev pub is_known_transition : Chart → Transition → Bool
is_known_transition c t =
    nat_lt t.source.0 (length c.states) && nat_lt t.target.0 (length c.states) && all_of (λ event. nat_lt event.0 (length c.events)) t.event
    && all_of (is_known_expr c) t.guard && list_all (is_known_action c) t.actions

abbrev pub is_unit : Chart → UnitId → Bool
is_unit c u = nat_lt u.0 (length c.units)

-- event 0 is `fault`, which is at no unit, and each other event is at a unit of the chart or at none
abbrev pub is_placed_event : Chart → ℕ → Event → Bool
is_placed_event c n event = (not (n == 0) || (bytes_eq event.name (codes "fault") && is_none event.unit)) && all_of (is_unit c) event.unit

-- state 0 has no parent, and the parent of each other state is the state before it or an ancestor of that
abbrev pub follows : Chart → ℕ → Option ℕ → Bool
follows c s None = s == 0
follows c s (Some p) = nat_lt 0 s && ((p == s - 1) || is_above c p (s - 1))

abbrev pub is_placed_state : Chart → ℕ → State → Bool
is_placed_state c s state = follows c s (parent_of state) && is_unit c state.unit

abbrev pub is_known_activity : Chart → Activity → Bool
is_known_activity c a = is_unit c a.unit && list_all (λ x. nat_lt x.0 (length c.vars)) a.outputs

-- every number is that of a part of the chart
unfoldable pub is_numbered : Chart → Bool
is_numbered c =
    nat_lt 0 (length c.events) && all_numbered (is_placed_event c) c.events && list_all (is_known_activity c) c.acts
    && all_numbered (is_placed_state c) c.states && list_all (is_known_transition c) c.transitions

-- NAMES

-- all names but the chart's, in order
abbrev pub names_of : Chart → List (List ℕ)
names_of c = c.units ++ map (λ x. x.name) c.events ++ map (λ x. x.name) c.vars ++ map (λ x. x.name) c.acts ++ map (λ x. x.name) c.states

-- the name is none of the first n
abbrev pub is_new : List (List ℕ) → ℕ → List ℕ → Bool
is_new names n name = not (list_any (bytes_eq name) (take n names))

-- each name is one, and none but the chart's stands twice
unfoldable pub is_named : Chart → Bool
is_named c = is_name c.name && list_all is_name (names_of c) && all_numbered (is_new (names_of c)) (names_of c)

-- SHAPE

abbrev pub has_child : Chart → ℕ → Bool
has_child c s = list_any (λ state. is_child_of s (parent_of state)) c.states

-- whether a state of this kind may have children, and whether it may have none
abbrev pub suits : Kind → Bool → Bool
suits kinds.Basic has = not has
suits kinds.Or has = has
suits kinds.And has = has

-- no state is too deep, Or and And states have children, and basic states have none
abbrev pub is_shaped_state : Chart → ℕ → State → Bool
is_shaped_state c s state = nat_lt (length (ancestors c s)) max_depth && suits state.kind (has_child c s)

-- the root is an Or state
unfoldable pub is_shaped : Chart → Bool
is_shaped c = is_or (kind c 0) && all_numbered (is_shaped_state c) c.states

-- OUTPUTS AND ENDS

-- the variable is none of the first n
abbrev pub is_new_output : List VarId → ℕ → VarId → Bool
is_new_output outputs n x = not (list_any (λ y. y.0 == x.0) (take n outputs))

-- no variable stands twice among the outputs of an activity
abbrev pub are_outputs : Activity → Bool
are_outputs a = all_numbered (is_new_output a.outputs) a.outputs

-- the root is neither the source nor the target of a transition
abbrev pub spares_root : Transition → Bool
spares_root t = nat_lt 0 t.source.0 && nat_lt 0 t.target.0

-- SORTS

abbrev pub gives : Sort → Result Sort TypeFault → Bool
gives sort (Ok other) = alike sort other
gives sort (Err fault) = false

-- the expression has this sort
abbrev pub has_sort : Chart → Expr → Sort → Bool
has_sort c x sort = gives sort (sort_of (var_sort c) x)

abbrev pub is_sorted_action : Chart → Action → Bool
is_sorted_action c (act.Assign x value) = all_of (has_sort c value) (var_sort c x.0)
is_sorted_action c (act.Raise event) = true
is_sorted_action c (act.Start a) = true

abbrev pub is_sorted_transition : Chart → Transition → Bool
is_sorted_transition c t = all_of (λ guard. has_sort c guard sorts.Bool) t.guard && list_all (is_sorted_action c) t.actions

-- first values, guards and assigned values have their sorts
unfoldable pub is_sorted : Chart → Bool
is_sorted c = list_all (λ x. alike (val_sort x.first) x.sort) c.vars && list_all (is_sorted_transition c) c.transitions

-- all rules
unfoldable pub is_accepted : Chart → Bool
is_accepted c =
    is_small c && is_numbered c && is_named c && is_shaped c && list_all are_outputs c.acts && list_all spares_root c.transitions
    && is_sorted c

abbrev pub IsAccepted : Chart → Type 0
IsAccepted c = IsTrue (is_accepted c)
