-- Inner. What actions make of what was gathered before them.
use Rattle.std.specs.Prelude.{ℕ, ◌+◌, ◌++◌, ◌<◌, Bool, true, false, List, [], ◌∷◌, Result, Ok, Err, IsOk, length, map, filter, replicate, slice_set, slice_index_or}
use Rattle.std.specs.List.{range_with_len}
use Rattle.wf_model.specs.declared.ids.EventId.{EventId}
use Rattle.wf_model.specs.declared.value.Val.{Val}
use Rattle.wf_model.specs.declared.expr.Fault.{Fault}
use Rattle.wf_model.specs.declared.chart.Action.{Action}
use Rattle.wf_model.specs.declared.chart.Action.TheVariants.{Assign, Raise, Start}
use Rattle.wf_model.specs.declared.chart.Chart.{Chart}
use Rattle.wf_model.specs.Seen.{Seen, HasAll, var_sorts}
use Rattle.wf_model.specs.Sorts.{sort_of}
use Rattle.wf_model.specs.Values.{value_of}
use Rattle.wf_semantics.specs.Effects.{actions_of}
use Rattle.wf_effects.specs.declared.gathered.Gathered.{Gathered}

-- this store, of so many events none raised, and nothing started
abbrev pub nothing_yet : List Val → ℕ → Gathered
nothing_yet store events = record { store = store; raised = replicate events false; starts = [] }

-- the value is written, and a fault raises event 0
abbrev pub assigned : ℕ → Result Val Fault → Gathered → Gathered
assigned x (Ok val) g = record g { store = slice_set g.store x val }
assigned x (Err fault) g = record g { raised = slice_set g.raised 0 true }

-- after an action at this place of transition t
abbrev pub performed : Seen → ℕ → ℕ → Action → Gathered → Gathered
performed seen t place (Assign x value) g = assigned x.0 (value_of seen value) g
performed seen t place (Raise e) g = record g { raised = slice_set g.raised e.0 true }
performed seen t place (Start a) g = record g { starts = g.starts ++ record { act = a; trans = record { 0 = t }; place = place } ∷ [] }

-- after actions of transition t, the first at this place
abbrev pub performed_all : Seen → ℕ → ℕ → List Action → Gathered → Gathered
performed_all seen t place [] g = g
performed_all seen t place (a ∷ acts) g = performed_all seen t (place + 1) acts (performed seen t place a g)

-- after these transitions
abbrev pub fired_all : Chart → Seen → List ℕ → Gathered → Gathered
fired_all chart seen [] g = g
fired_all chart seen (t ∷ ts) g = fired_all chart seen ts (performed_all seen t 0 (actions_of chart t) g)

-- of so many variables and events there are those that the action names, and the snapshot gives an assigned value
abbrev pub CanPerform : Seen → ℕ → ℕ → Action → Type 0
CanPerform seen vars events (Assign x value) = (x.0 < vars) × (0 < events) × IsOk (sort_of (var_sorts seen) value) × HasAll seen value
CanPerform seen vars events (Raise e) = e.0 < events
CanPerform seen vars events (Start a) = Unit {0}

-- the events at whose numbers the list has `true`, ascending
abbrev pub events_of : List Bool → List EventId
events_of bits = map (λ e. record { 0 = e }) (filter (λ e. slice_index_or bits e false) (range_with_len 0 (length bits)))
