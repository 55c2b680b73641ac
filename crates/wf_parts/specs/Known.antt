-- Which transitions concern a unit, and what it knows.
use Rattle.std.specs.Prelude.{ℕ, ◌==◌, ◌||◌, ◌&&◌, Bool, false, slice_get}
use Rattle.std.specs.Option.{option_map_or}
use Rattle.std.specs.List.{list_any}
use Rattle.wf_model.specs.declared.expr.Expr.{Expr}
use Rattle.wf_model.specs.declared.chart.Transition.{Transition}
use Rattle.wf_model.specs.declared.chart.Chart.{Chart}
use Rattle.wf_model.specs.Tree.{all_states, all_transitions, all_acts, scope, source, is_above}
use Rattle.wf_semantics.specs.Admission.{is_event_at, is_act_at}
use Rattle.wf_parts.specs.Reads.{reads_state, reads_var, reads_act, guard_reads, values_read, assigns, is_on}

-- state z is a state of unit u
abbrev pub is_state_of : Chart → ℕ → ℕ → Bool
is_state_of chart u z = option_map_or (λ state. state.unit.0 == u) (slice_get chart.states z) false

-- transition t concerns u: its scope is a proper ancestor of a state of u
unfoldable pub concerns : Chart → ℕ → ℕ → Bool
concerns chart u t = list_any (λ z. is_state_of chart u z && is_above chart (scope chart t) z) (all_states chart)

-- it is u's own: its source is a state of u
unfoldable pub is_own : Chart → ℕ → ℕ → Bool
is_own chart u t = is_state_of chart u (source chart t)

-- the transition is so
abbrev pub is_such : (Transition → Bool) → Chart → ℕ → Bool
is_such test chart t = option_map_or test (slice_get chart.transitions t) false

-- a guard of a transition that concerns u reads so, or a value that an own one assigns
abbrev pub is_read : Chart → ℕ → (Expr → Bool) → Bool
is_read chart u reads =
    list_any (λ t. (concerns chart u t && is_such (guard_reads reads) chart t) || (is_own chart u t && is_such (values_read reads) chart t)) (all_transitions chart)

-- a transition that concerns u leads from state s, or s is read so
unfoldable pub watches_state : Chart → ℕ → ℕ → Bool
watches_state chart u s =
    list_any (λ t. concerns chart u t && (source chart t == s)) (all_transitions chart) || is_read chart u (reads_state s)

-- u knows its own states and those that it watches
abbrev pub knows_state : Chart → ℕ → ℕ → Bool
knows_state chart u s = is_state_of chart u s || watches_state chart u s

abbrev pub has_output : Chart → ℕ → ℕ → Bool
has_output chart x a = option_map_or (λ act. list_any (λ v. v.0 == x) act.outputs) (slice_get chart.acts a) false

-- the variables that are read so, that an own transition assigns, or that are outputs of u's activities
unfoldable pub knows_var : Chart → ℕ → ℕ → Bool
knows_var chart u x =
    is_read chart u (reads_var x)
    || (list_any (λ t. is_own chart u t && is_such (assigns x) chart t) (all_transitions chart)
    || list_any (λ a. is_act_at chart u a && has_output chart x a) (all_acts chart))

-- the events at u, and those of the transitions that concern it
unfoldable pub knows_event : Chart → ℕ → ℕ → Bool
knows_event chart u n =
    is_event_at chart u n || list_any (λ t. concerns chart u t && is_such (is_on n) chart t) (all_transitions chart)

-- u's own activities, and those that are read so
unfoldable pub knows_act : Chart → ℕ → ℕ → Bool
knows_act chart u a = is_act_at chart u a || is_read chart u (reads_act a)
