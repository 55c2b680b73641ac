-- The tree of a chart's states: kinds, parents, children, ancestors, scopes.
use Rattle.std.specs.Prelude.{ℕ, zero, suc, ◌&&◌, ◌==◌, Bool, true, false, List, [], ◌∷◌, length, Option, Some, None, slice_get, option_and_then, option_map, unwrap_or, filter, find}
use Rattle.std.specs.List.{list_any, range_with_len}
use Rattle.wf_model.specs.declared.ids.StateId.{StateId}
use Rattle.wf_model.specs.declared.chart.Kind.{Kind}
use Rattle.wf_model.specs.declared.chart.Kind.TheVariants.{Basic, Or, And}
use Rattle.wf_model.specs.declared.chart.State.{State}
use Rattle.wf_model.specs.declared.chart.Transition.{Transition}
use Rattle.wf_model.specs.declared.chart.Chart.{Chart}

-- n is one of the numbers
abbrev pub is_among : List ℕ → ℕ → Bool
is_among ns n = list_any (λ m. m == n) ns

-- the numbers of all states
abbrev pub all_states : Chart → List ℕ
all_states chart = range_with_len 0 (length chart.states)

-- the numbers of all transitions
abbrev pub all_transitions : Chart → List ℕ
all_transitions chart = range_with_len 0 (length chart.transitions)

-- the numbers of all events
abbrev pub all_events : Chart → List ℕ
all_events chart = range_with_len 0 (length chart.events)

-- the numbers of all activities
abbrev pub all_acts : Chart → List ℕ
all_acts chart = range_with_len 0 (length chart.acts)

abbrev pub kind : Chart → ℕ → Kind
kind chart s = unwrap_or (option_map (λ state. state.kind) (slice_get chart.states s)) Basic

abbrev pub is_basic : Kind → Bool
is_basic Basic = true
is_basic Or = false
is_basic And = false

abbrev pub is_or : Kind → Bool
is_or Basic = false
is_or Or = true
is_or And = false

-- the number of a state's parent, where it has one
abbrev pub parent_of : State → Option ℕ
parent_of state = option_map (λ p. p.0) state.parent

abbrev pub parent : Chart → ℕ → Option ℕ
parent chart s = option_and_then parent_of (slice_get chart.states s)

abbrev pub source : Chart → ℕ → ℕ
source chart t = unwrap_or (option_map (λ trans. trans.source.0) (slice_get chart.transitions t)) 0

abbrev pub target : Chart → ℕ → ℕ
target chart t = unwrap_or (option_map (λ trans. trans.target.0) (slice_get chart.transitions t)) 0

abbrev pub is_child_of : ℕ → Option ℕ → Bool
is_child_of s None = false
is_child_of s (Some p) = p == s

-- the children of a state, in order
unfoldable pub children : Chart → ℕ → List ℕ
children chart s = filter (λ k. is_child_of s (parent chart k)) (all_states chart)

-- what f makes of the value, and the empty list where there is none
abbrev pub list_from : {A B : Type 0} → (A → List B) → Option A → List B
list_from f None = []
list_from f (Some x) = f x

-- the proper ancestors of a state, the lowest first, up to so many
unfoldable pub ancestors_by : (ℕ → Option ℕ) → ℕ → ℕ → List ℕ
ancestors_by up zero s = []
ancestors_by up (suc most) s = list_from (λ p. p ∷ ancestors_by up most p) (up s)

-- all proper ancestors: a parent has a smaller number than its child, so state s has at most s of them
abbrev pub ancestors : Chart → ℕ → List ℕ
ancestors chart s = ancestors_by (parent chart) s s

-- a is a proper ancestor of s
abbrev pub is_above : Chart → ℕ → ℕ → Bool
is_above chart a s = is_among (ancestors chart s) a

-- the lowest Or state that is a proper ancestor of both
abbrev pub scope_between : Chart → ℕ → ℕ → ℕ
scope_between chart source target =
    unwrap_or (find (λ a. is_or (kind chart a) && is_above chart a target) (ancestors chart source)) 0

-- the scope of transition t: the lowest Or state that is a proper ancestor of both its source and its target
abbrev pub scope : Chart → ℕ → ℕ
scope chart t = scope_between chart (source chart t) (target chart t)
