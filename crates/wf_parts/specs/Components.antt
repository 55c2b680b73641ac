-- A chart cut into components.
-- For each state, which transitions let it in and out; for each transition, which block it.
use Rattle.std.specs.Prelude.{ℕ, ◌&&◌, ◌||◌, not, Bool, List, [], map, filter, slice_get, unwrap_or}
use Rattle.std.specs.List.{list_any}
use Rattle.wf_model.specs.declared.ids.TransId.{TransId}
use Rattle.wf_parts.specs.declared.data.Component.{Component}
use Rattle.wf_parts.specs.declared.data.Flat.{Flat}
use Rattle.wf_model.specs.declared.chart.Chart.{Chart}
use Rattle.wf_model.specs.Tree.{all_states, all_transitions, scope, is_above}
use Rattle.wf_model.specs.Ids.{state_id, trans_id}
use Rattle.wf_semantics.specs.Configuration.{is_in}
use Rattle.wf_semantics.specs.Entry.{default_tree, entry_tree}
use Rattle.wf_semantics.specs.Flat.{blockers}

-- state z is in what transition t enters
abbrev pub enters : Chart → ℕ → ℕ → Bool
enters chart t z = is_in z (entry_tree chart t)

-- t lets z out: its scope is a proper ancestor of z, and it doesn't enter z
abbrev pub leaves : Chart → ℕ → ℕ → Bool
leaves chart t z = is_above chart (scope chart t) z && not (enters chart t z)

-- the state by itself: whether it is in at first, and the transitions that let it in and out, in order
abbrev pub component_of : Chart → ℕ → Component
component_of chart z =
    record {
      state = state_id z;
      first = is_in z (default_tree chart 0);
      enter = map trans_id (filter (λ t. enters chart t z) (all_transitions chart));
      leave = map trans_id (filter (λ t. leaves chart t z) (all_transitions chart));
    }

-- the transitions that block t, in order
abbrev pub blocker_ids : Chart → ℕ → List TransId
blocker_ids chart t = map trans_id (blockers chart t)

-- the whole chart so
unfoldable pub flat_of : Chart → Flat
flat_of chart = record { components = map (component_of chart) (all_states chart); blockers = map (blocker_ids chart) (all_transitions chart) }

-- ---- the step on components: it asks who is enabled, and walks no tree

-- t is enabled, and none of its blockers is
abbrev pub fires_by : Flat → (ℕ → Bool) → ℕ → Bool
fires_by flat enabled t = enabled t && not (list_any (λ b. enabled b.0) (unwrap_or (slice_get flat.blockers t) []))

-- a state is in after the step: a transition that fires lets it in; or it was in, and none that fires lets it out
abbrev pub is_in_after : (ℕ → Bool) → Component → Bool → Bool
is_in_after firing component before =
    list_any (λ t. firing t.0) component.enter || (before && not (list_any (λ t. firing t.0) component.leave))
