-- Of the laws. Which entries may follow each other in a unit's history.
-- Each completion is of an item that was there, and no item has two.
use Rattle.std.specs.Prelude.{ℕ, zero, suc, ◌≡◌, ◌<◌, ◌==◌, ◌&&◌, not, Bool, true, false, List, [], ◌∷◌, ◌++◌, map, filter, flat_map, insert, Option, Some, None, slice_get}
use Rattle.std.specs.List.{list_any, list_all, range_with_len}
use Rattle.wf_model.specs.Limits.{max_transitions}
use Rattle.wf_model.specs.declared.ids.ActId.{ActId}
use Rattle.wf_model.specs.declared.chart.Chart.{Chart}
use Rattle.wf_model.specs.declared.outer.Outer.{Outer}
use Rattle.wf_model.specs.declared.outer.Outer.TheVariants.{Happen, Complete}
use Rattle.wf_parts.specs.declared.data.PartData.{PartData}
use Rattle.wf_model.specs.declared.update.StartAt.{StartAt}
use Rattle.wf_model.specs.declared.update.Update.{Update}
use Rattle.wf_semantics.specs.Admission.{completes}
use Rattle.wf_parts.specs.Parts.{part_of}
use Rattle.wf_views.specs.Absorbing.{starts_in}
use Rattle.wf_lockstep.specs.Within.{is_at_unit}
use Rattle.wf_histories.specs.Histories.{History, taken, inputs_at, sealed_by, local_update}

-- activity a is the part's own
abbrev pub is_own_act : PartData → ℕ → Bool
is_own_act part a = list_any (λ known. (known.id.0 == a) && (known.unit.0 == part.unit.0)) part.acts

-- starts by transition, those of one transition as they stand
abbrev pub by_transition : List StartAt → List StartAt
by_transition starts = flat_map (λ t. filter (λ s. s.trans.0 == t) starts) (range_with_len 0 max_transitions)

-- the activities of the items that these updates of a step make at the unit, in order
abbrev pub new_acts : PartData → List Update → List ActId
new_acts part updates = map (λ s. s.act) (by_transition (filter (λ s. is_own_act part s.act.0) (starts_in updates)))

-- the activities of the unit's items after j Turns
unfoldable pub item_acts : PartData → History → ℕ → List ActId
item_acts part h zero = []
item_acts part h (suc j) = item_acts part h j ++ new_acts part (insert (inputs_at h j) part.unit.0 (local_update part h (suc j)))

abbrev pub is_act : ℕ → Option ActId → Bool
is_act a None = false
is_act a (Some b) = b.0 == a

-- the n-th of these is activity a, where numbers count from 1
abbrev pub is_item : List ActId → ℕ → ℕ → Bool
is_item acts zero a = false
is_item acts (suc n) a = is_act a (slice_get acts n)

-- a completion is of an item that is there
abbrev pub is_there : List ActId → Outer → Bool
is_there acts (Happen e) = true
is_there acts (Complete n a outputs) = is_item acts n a.0

-- and of none that one before it completes
abbrev pub is_first : List Outer → Outer → Bool
is_first before (Happen e) = true
is_first before (Complete n a outputs) = not (list_any (completes n) before)

abbrev pub are_first : List Outer → List Outer → Bool
are_first before [] = true
are_first before (o ∷ os) = is_first before o && are_first (before ++ o ∷ []) os

-- what Turns below j sealed
unfoldable pub sealed_before : History → ℕ → List Outer
sealed_before h zero = []
sealed_before h (suc j) = sealed_before h j ++ sealed_by h j

-- what each Turn sealed is at the unit, and completes items that were started at a step below the Turn's own, each once
pub record Follows (chart : Chart) (u : ℕ) (h : History) : Type 0 where
  pub at_unit : (j : ℕ) → list_all (is_at_unit chart u) (sealed_by h j) ≡ true
  pub there : (j : ℕ) → j < taken h → list_all (is_there (item_acts (part_of chart u) h j)) (sealed_by h (suc j)) ≡ true
  pub once : are_first [] (sealed_before h (suc (taken h))) ≡ true
