-- What a step does beside moving: the store, the raised events, the starts.
use Rattle.std.specs.Prelude.{ℕ, ◌+◌, ◌==◌, ◌&&◌, Bool, true, false, List, [], ◌∷◌, length, map, filter, flat_map, Result, Ok, Err, slice_get, slice_set, unwrap_or, option_map}
use Rattle.std.specs.List.{list_any, range_with_len}
use Rattle.wf_model.specs.declared.ids.EventId.{EventId}
use Rattle.wf_model.specs.declared.value.Val.{Val}
use Rattle.wf_model.specs.declared.expr.Fault.{Fault}
use Rattle.wf_model.specs.declared.chart.Action.{Action}
use Rattle.wf_model.specs.declared.chart.Action.TheVariants.{Assign, Raise, Start}
use Rattle.wf_model.specs.declared.chart.Chart.{Chart}
use Rattle.wf_model.specs.declared.outer.Output.{Output}
use Rattle.wf_model.specs.declared.outer.Outer.{Outer}
use Rattle.wf_model.specs.declared.outer.Outer.TheVariants.{Happen, Complete}
use Rattle.wf_model.specs.declared.outer.Entry.{Entry}
use Rattle.wf_model.specs.declared.update.StartAt.{StartAt}
use Rattle.wf_model.specs.Seen.{Seen}
use Rattle.wf_model.specs.Values.{value_of}

-- the actions of transition t
abbrev pub actions_of : Chart → ℕ → List Action
actions_of chart t = unwrap_or (option_map (λ trans. trans.actions) (slice_get chart.transitions t)) []

-- THE STORE: the value of each variable, in order

-- a completion's outputs are written in order
abbrev pub after_outputs : List Output → List Val → List Val
after_outputs [] store = store
after_outputs (o ∷ os) store = after_outputs os (slice_set store o.var.0 o.val)

abbrev pub after_outer : Outer → List Val → List Val
after_outer (Happen e) store = store
after_outer (Complete item a outputs) store = after_outputs outputs store

abbrev pub after_entries : List Entry → List Val → List Val
after_entries [] store = store
after_entries (x ∷ xs) store = after_entries xs (after_outer x.outer store)

-- an assignment whose value is a fault writes nothing
abbrev pub written : ℕ → Result Val Fault → List Val → List Val
written x (Ok val) store = slice_set store x val
written x (Err fault) store = store

abbrev pub after_action : Seen → Action → List Val → List Val
after_action seen (Assign x value) store = written x.0 (value_of seen value) store
after_action seen (Raise e) store = store
after_action seen (Start a) store = store

-- the actions of one transition in order, a later assignment over an earlier one
abbrev pub after_actions : Seen → List Action → List Val → List Val
after_actions seen [] store = store
after_actions seen (x ∷ xs) store = after_actions seen xs (after_action seen x store)

-- the transitions in order, a greater number over a smaller one
abbrev pub after_fired : Chart → Seen → List ℕ → List Val → List Val
after_fired chart seen [] store = store
after_fired chart seen (t ∷ ts) store = after_fired chart seen ts (after_actions seen (actions_of chart t) store)

-- RAISED EVENTS

abbrev pub is_fault : Result Val Fault → Bool
is_fault (Ok val) = false
is_fault (Err fault) = true

-- an assignment whose value is a fault raises event 0, which is `fault`
abbrev pub action_raises : Seen → ℕ → Action → Bool
action_raises seen e (Assign x value) = (e == 0) && is_fault (value_of seen value)
action_raises seen e (Raise f) = f.0 == e
action_raises seen e (Start a) = false

abbrev pub raises : Chart → Seen → ℕ → ℕ → Bool
raises chart seen e t = list_any (action_raises seen e) (actions_of chart t)

-- the events that these transitions raise, ascending
abbrev pub raised_by : Chart → Seen → List ℕ → List EventId
raised_by chart seen fired =
    map (λ e. record { 0 = e }) (filter (λ e. list_any (raises chart seen e) fired) (range_with_len 0 (length chart.events)))

-- STARTS

abbrev pub starts_from : ℕ → ℕ → List Action → List StartAt
starts_from t place [] = []
starts_from t place (Assign x value ∷ rest) = starts_from t (place + 1) rest
starts_from t place (Raise e ∷ rest) = starts_from t (place + 1) rest
starts_from t place (Start a ∷ rest) = record { act = a; trans = record { 0 = t }; place = place } ∷ starts_from t (place + 1) rest

-- the starts of these transitions, by transition and place
abbrev pub starts_of : Chart → List ℕ → List StartAt
starts_of chart fired = flat_map (λ t. starts_from t 0 (actions_of chart t)) fired
