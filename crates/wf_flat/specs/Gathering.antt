-- Inner. Ties what transitions are gathered to do to the definitions of effects.
use Rattle.std.specs.Prelude.{ℕ, ◌++◌, ◌∷◌, ◌==◌, List, [], map, filter, filter_map, flat_map, Result, Ok, Err}
use Rattle.std.specs.List.{list_any, range_with_len}
use Rattle.wf_model.specs.Limits.{max_events}
use Rattle.wf_model.specs.Ids.{event_id}
use Rattle.wf_model.specs.declared.ids.EventId.{EventId}
use Rattle.wf_model.specs.declared.value.Val.{Val}
use Rattle.wf_model.specs.declared.expr.Fault.{Fault}
use Rattle.wf_model.specs.declared.chart.Action.{Action}
use Rattle.wf_model.specs.declared.chart.Action.TheVariants.{Assign, Raise, Start}
use Rattle.wf_model.specs.Seen.{Seen}
use Rattle.wf_model.specs.Values.{value_of}
use Rattle.wf_semantics.specs.Effects.{starts_from}
use Rattle.wf_actions.specs.Store.{write_of}
use Rattle.wf_parts.specs.declared.data.PartTransition.{PartTransition}
use Rattle.wf_flat.specs.declared.gathered.Gathered.{Gathered}

-- event 0, `fault`, where a value is none
abbrev pub fault_of : Result Val Fault → List EventId
fault_of (Ok val) = []
fault_of (Err fault) = event_id 0 ∷ []

-- what an action raises
abbrev pub raises_of : Seen → Action → List EventId
raises_of seen (Assign x value) = fault_of (value_of seen value)
raises_of seen (Raise e) = e ∷ []
raises_of seen (Start a) = []

-- after actions of transition t, the first at this place
abbrev pub performed : Seen → ℕ → ℕ → List Action → Gathered → Gathered
performed seen t place actions g =
    record g {
      writes = g.writes ++ filter_map (write_of seen t) actions;
      raised = g.raised ++ flat_map (raises_of seen) actions;
      starts = g.starts ++ starts_from t place actions;
    }

-- what these transitions do
abbrev pub gathered_of : Seen → List PartTransition → Gathered
gathered_of seen fired =
    record {
      writes = flat_map (λ trans. filter_map (write_of seen trans.id.0) trans.actions) fired;
      raised = flat_map (λ trans. flat_map (raises_of seen) trans.actions) fired;
      starts = flat_map (λ trans. starts_from trans.id.0 0 trans.actions) fired;
      fired = map (λ trans. trans.id) fired;
    }

-- each event once, ascending
abbrev pub ascending : List EventId → List EventId
ascending raised = map event_id (filter (λ e. list_any (λ r. r.0 == e) raised) (range_with_len 0 max_events))
