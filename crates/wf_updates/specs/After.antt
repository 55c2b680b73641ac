-- Inner. The lists of a view after a step, and the same by tables.
use Rattle.std.specs.Prelude.{ℕ, ◌+◌, ◌-◌, ◌==◌, Bool, List, None, Option, map, filter, filter_map, slice_index, slice_index_or, unwrap_or}
use Rattle.std.specs.Option.{option_map_or}
use Rattle.std.specs.List.{list_any}
use Rattle.wf_model.specs.declared.ids.StateId.{StateId}
use Rattle.wf_model.specs.declared.ids.EventId.{EventId}
use Rattle.wf_model.specs.declared.ids.ActId.{ActId}
use Rattle.wf_model.specs.declared.ids.UnitId.{UnitId}
use Rattle.wf_model.specs.declared.value.Val.{Val}
use Rattle.wf_model.specs.declared.outer.Output.{Output}
use Rattle.wf_model.specs.declared.outer.Outer.{Outer}
use Rattle.wf_model.specs.declared.outer.Entry.{Entry}
use Rattle.wf_model.specs.declared.update.Write.{Write}
use Rattle.wf_model.specs.declared.update.Update.{Update}
use Rattle.wf_semantics.specs.Items.{done_count}
use Rattle.wf_parts.specs.declared.data.KnownState.{KnownState}
use Rattle.wf_parts.specs.declared.data.KnownEvent.{KnownEvent}
use Rattle.wf_parts.specs.Peers.{Knowledge}
use Rattle.wf_views.specs.OwnSteps.{differs}
use Rattle.wf_views.specs.Knowledge.{cut_entry}
use Rattle.wf_views.specs.Views.{after_outputs, outputs_in, completions_in}
use Rattle.wf_views.specs.Absorbing.{is_flipped, value_after, start_count, writes_in, starts_in}

-- the known states that are in just one of two sets
abbrev pub moved : List KnownState → (ℕ → Bool) → (ℕ → Bool) → List StateId
moved known inside flipped = map (λ known. known.id) (filter (λ known. differs (inside known.id.0) (flipped known.id.0)) known)

-- the known states that are in after the updates, where these were in before
abbrev pub states_after : List KnownState → List StateId → List Update → List StateId
states_after known before updates = moved known (λ s. list_any (λ id. id.0 == s) before) (is_flipped updates)

-- the known events that are in a set
abbrev pub events_among : List KnownEvent → (ℕ → Bool) → List EventId
events_among known raised = map (λ known. known.id) (filter (λ known. raised known.id.0) known)

-- a value by the write that stays, else by the last output, else the one before
abbrev pub value_from : Option Write → Option Val → Val → Val
value_from best last before = option_map_or (λ write. write.val) best (unwrap_or last before)

-- the variables with their values, by tables of the last outputs and of the writes that stay
abbrev pub values_by : List Output → List (Option Val) → List (Option Write) → List Output
values_by vars last best =
    map (λ o. record { var = o.var; val = value_from (slice_index_or best o.var.0 None) (slice_index_or last o.var.0 None) o.val }) vars

-- the variables with their values after the outputs of entries and the updates
abbrev pub vars_after : List Output → List Entry → List Update → List Output
vars_after vars next updates =
    map (λ o. record { var = o.var; val = value_after (writes_in updates) o.var.0 (after_outputs o.var.0 (outputs_in next) o.val) }) vars

-- how many items of an activity are open, by tables of those done and those started
abbrev pub count_by : List ℕ → List ℕ → ActId × ℕ → ℕ
count_by done started a = a.1 - slice_index done a.0.0 + slice_index started a.0.0

-- how many are open after the completions of entries and the updates
abbrev pub count_after : List Entry → List Update → ActId × ℕ → ℕ
count_after next updates a = a.1 - done_count a.0.0 (completions_in next) + start_count a.0.0 (starts_in updates)

-- the activities with such counts
abbrev pub counted : (ActId × ℕ → ℕ) → List (ActId × ℕ) → List (ActId × ℕ)
counted count unclosed = map (λ a. (a.0, count a)) unclosed

-- the outers of a unit as entries, as far as they are known
abbrev pub entries_from : Knowledge → UnitId → List Outer → List Entry
entries_from known unit outers = filter_map (λ outer. cut_entry known (record { unit = unit; outer = outer })) outers
