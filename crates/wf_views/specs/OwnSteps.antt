-- Of other calls. What a unit makes of its view by its part alone.
use Rattle.std.specs.Prelude.{ℕ, ◌==◌, ◌&&◌, not, Bool, true, false, List, map, filter, filter_map, flat_map, find, Option}
use Rattle.std.specs.Option.{option_map_or}
use Rattle.std.specs.List.{list_any, range_with_len}
use Rattle.wf_model.specs.Limits.{max_events}
use Rattle.wf_model.specs.Ids.{event_id}
use Rattle.wf_parts.specs.declared.data.Component.{Component}
use Rattle.wf_parts.specs.declared.data.PartTransition.{PartTransition}
use Rattle.wf_parts.specs.declared.data.PartData.{PartData}
use Rattle.wf_model.specs.declared.outer.Outer.{Outer}
use Rattle.wf_model.specs.declared.update.Update.{Update}
use Rattle.wf_semantics.specs.Snapshot.{Snapshot, is_active, has_event, has_guard}
use Rattle.wf_semantics.specs.Effects.{action_raises, starts_from}
use Rattle.wf_actions.specs.Writes.{merged}
use Rattle.wf_actions.specs.Store.{write_of}
use Rattle.wf_parts.specs.Components.{is_in_after}
use Rattle.wf_views.specs.Views.{View, sees}

-- the part's transition with this number
abbrev pub transition_in : PartData → ℕ → Option PartTransition
transition_in part t = find (λ trans. trans.id.0 == t) part.transitions

-- the source is active, the event is there, and the guard is true
abbrev pub is_ready_in : Snapshot → PartTransition → Bool
is_ready_in snap trans = is_active snap.seen trans.source.0 && (has_event snap.there trans.event && has_guard snap.seen trans.guard)

abbrev pub is_enabled_in : PartData → Snapshot → ℕ → Bool
is_enabled_in part snap t = option_map_or (is_ready_in snap) (transition_in part t) false

-- it is enabled, and none of its blockers is
abbrev pub is_fired_in : PartData → Snapshot → PartTransition → Bool
is_fired_in part snap trans = is_ready_in snap trans && not (list_any (λ b. is_enabled_in part snap b.0) trans.blockers)

abbrev pub fires_in : PartData → Snapshot → ℕ → Bool
fires_in part snap t = option_map_or (is_fired_in part snap) (transition_in part t) false

-- the unit's own transitions that fire
abbrev pub own_fired : PartData → Snapshot → List PartTransition
own_fired part snap = filter (λ trans. trans.own && is_fired_in part snap trans) part.transitions

abbrev pub differs : Bool → Bool → Bool
differs true b = not b
differs false b = b

-- the component goes in or out
abbrev pub flips_in : PartData → Snapshot → Component → Bool
flips_in part snap c = differs (is_active snap.seen c.state.0) (is_in_after (fires_in part snap) c (is_active snap.seen c.state.0))

-- one of these transitions raises event e
abbrev pub is_raised_by : Snapshot → List PartTransition → ℕ → Bool
is_raised_by snap fired e = list_any (λ trans. list_any (action_raises snap.seen e) trans.actions) fired

-- the update of this step, whose outers these are
unfoldable pub part_step : PartData → ℕ → Snapshot → List Outer → Update
part_step part step snap outers =
    record {
      from = part.unit;
      step = step;
      flips = map (λ c. c.state) (filter (flips_in part snap) part.components);
      writes = merged (flat_map (λ trans. filter_map (write_of snap.seen trans.id.0) trans.actions) (own_fired part snap));
      raised = map event_id (filter (is_raised_by snap (own_fired part snap)) (range_with_len 0 max_events));
      starts = flat_map (λ trans. starts_from trans.id.0 0 trans.actions) (own_fired part snap);
      fired = map (λ trans. trans.id) (own_fired part snap);
      outer = outers;
    }

abbrev pub own_update : PartData → ℕ → View → List Outer → Update
own_update part step view outers = part_step part step (sees part view) outers
