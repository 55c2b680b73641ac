-- The part of a unit: all that it is given of the chart.
use Rattle.std.specs.Prelude.{ℕ, ◌≡◌, ◌<◌, ◌==◌, Bool, List, [], map, filter, length, slice_get, unwrap_or, if◌then◌else◌}
use Rattle.std.specs.Option.{option_map_or}
use Rattle.std.specs.List.{enumerate_from}
use Rattle.wf_model.specs.declared.ids.VarId.{VarId}
use Rattle.wf_model.specs.declared.value.Sort.{Sort}
use Rattle.wf_model.specs.declared.value.Sort.TheVariants as sorts
use Rattle.wf_model.specs.declared.chart.State.{State}
use Rattle.wf_model.specs.declared.chart.Event.{Event}
use Rattle.wf_model.specs.declared.chart.Variable.{Variable}
use Rattle.wf_model.specs.declared.chart.Activity.{Activity}
use Rattle.wf_model.specs.declared.chart.Transition.{Transition}
use Rattle.wf_model.specs.declared.chart.Chart.{Chart}
use Rattle.wf_parts.specs.declared.data.PartTransition.{PartTransition}
use Rattle.wf_parts.specs.declared.data.KnownState.{KnownState}
use Rattle.wf_parts.specs.declared.data.KnownVariable.{KnownVariable}
use Rattle.wf_parts.specs.declared.data.KnownEvent.{KnownEvent}
use Rattle.wf_parts.specs.declared.data.KnownActivity.{KnownActivity}
use Rattle.wf_parts.specs.declared.data.PartData.{PartData}
use Rattle.wf_model.specs.Sorts.{var_sort}
use Rattle.wf_model.specs.Tree.{all_states}
use Rattle.wf_model.specs.Accepted.{IsAccepted}
use Rattle.wf_model.specs.Ids.{unit_id, state_id, trans_id, var_id, event_id, act_id}
use Rattle.wf_semantics.specs.Configuration.{is_in}
use Rattle.wf_semantics.specs.Entry.{default_tree}
use Rattle.wf_parts.specs.Components.{component_of, blocker_ids}
use Rattle.wf_parts.specs.Known.{is_state_of, concerns, is_own, knows_state, knows_var, knows_event, knows_act}
use Rattle.wf_parts.specs.Peers.{peers_of}

-- those of a list whose numbers pass a test, with their numbers
abbrev pub numbered : {A : Type 0} → (ℕ → Bool) → List A → List (ℕ × A)
numbered test xs = filter (λ x. test x.0) (enumerate_from 0 xs)

-- a transition that concerns u; the actions of own ones alone
abbrev pub part_transition : Chart → ℕ → ℕ × Transition → PartTransition
part_transition chart u x =
    record {
      id = trans_id x.0;
      source = x.1.source;
      event = x.1.event;
      guard = x.1.guard;
      blockers = blocker_ids chart x.0;
      own = is_own chart u x.0;
      actions = if is_own chart u x.0 then x.1.actions else [];
    }

abbrev pub known_state : Chart → ℕ × State → KnownState
known_state chart x = record { id = state_id x.0; unit = x.1.unit; first = is_in x.0 (default_tree chart 0) }

abbrev pub known_variable : ℕ × Variable → KnownVariable
known_variable x = record { id = var_id x.0; sort = x.1.sort; first = x.1.first }

abbrev pub known_event : ℕ × Event → KnownEvent
known_event x = record { id = event_id x.0; unit = x.1.unit }

-- an output with its sort
abbrev pub sorted_output : Chart → VarId → VarId × Sort
sorted_output chart v = (v, unwrap_or (var_sort chart v.0) sorts.Bool)

-- an activity; the outputs of u's own ones alone
abbrev pub known_activity : Chart → ℕ → ℕ × Activity → KnownActivity
known_activity chart u x =
    record {
      id = act_id x.0;
      unit = x.1.unit;
      outputs = if x.1.unit.0 == u then map (sorted_output chart) x.1.outputs else [];
    }

-- all that unit u is given
unfoldable pub part_of : Chart → ℕ → PartData
part_of chart u =
    record {
      chart = chart.name;
      name = option_map_or (λ name. name) (slice_get chart.units u) [];
      unit = unit_id u;
      units = length chart.units;
      components = map (component_of chart) (filter (is_state_of chart u) (all_states chart));
      transitions = map (part_transition chart u) (numbered (concerns chart u) chart.transitions);
      states = map (known_state chart) (numbered (knows_state chart u) chart.states);
      vars = map known_variable (numbered (knows_var chart u) chart.vars);
      events = map known_event (numbered (knows_event chart u) chart.events);
      acts = map (known_activity chart u) (numbered (knows_act chart u) chart.acts);
      peers = peers_of chart u;
    }

-- this is the part of a unit of an accepted chart
pub record IsPart (part : PartData) : Type 0 where
  pub chart : Chart
  pub unit : ℕ
  pub accepted : IsAccepted chart
  pub within : unit < length chart.units
  pub is : part ≡ part_of chart unit
