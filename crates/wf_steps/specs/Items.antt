-- Of other calls. A unit's items by its own history.
use Rattle.std.specs.Prelude.{ℕ, zero, suc, ◌==◌, Bool, List, [], ◌∷◌, ◌++◌, map, filter, insert}
use Rattle.std.specs.List.{list_any}
use Rattle.wf_model.specs.declared.ids.ActId.{ActId}
use Rattle.wf_model.specs.declared.update.StartAt.{StartAt}
use Rattle.wf_model.specs.declared.update.Update.{Update}
use Rattle.wf_parts.specs.declared.data.PartData.{PartData}
use Rattle.wf_semantics.specs.Items.{Item}
use Rattle.wf_semantics.specs.Admission.{completes}
use Rattle.wf_views.specs.Absorbing.{starts_in}
use Rattle.wf_histories.specs.Histories.{History, taken, inputs_at, local_update}
use Rattle.wf_histories.specs.Follows.{is_own_act, by_transition, item_acts}
use Rattle.wf_worlds.specs.Admitting.{outers}

-- the part's own activities
abbrev pub own_acts : PartData → List ActId
own_acts part = map (λ known. known.id) (filter (λ known. known.unit.0 == part.unit.0) part.acts)

-- an admission completes item n
abbrev pub is_completed : History → ℕ → Bool
is_completed h n = list_any (completes n) (outers h.admissions)

-- items of these activities, numbered from n on; which are closed
abbrev pub items_from : (ℕ → Bool) → ℕ → List ActId → List Item
items_from closed n [] = []
items_from closed n (a ∷ acts) = record { act = a; closed = closed n } ∷ items_from closed (suc n) acts

-- THE UNIT'S ITEMS: its starts in order; closed is what an admission completes
unfoldable pub items_of : PartData → History → List Item
items_of part h = items_from (is_completed h) 1 (item_acts part h (taken h))

-- starts in the order of the items that they make
unfoldable pub in_order : List StartAt → List StartAt
in_order starts = by_transition starts

-- of the updates of a step the starts that make items at the unit, in the order of the items
abbrev pub new_starts : PartData → List Update → List StartAt
new_starts part updates = in_order (filter (λ s. is_own_act part s.act.0) (starts_in updates))

-- the updates of all units of step j + 1, as the unit took them in
abbrev pub all_at : PartData → History → ℕ → List Update
all_at part h j = insert (inputs_at h j) part.unit.0 (local_update part h (suc j))

-- the step of each item's start, after j Turns
unfoldable pub item_steps : PartData → History → ℕ → List ℕ
item_steps part h zero = []
item_steps part h (suc j) = item_steps part h j ++ map (λ s. suc j) (new_starts part (all_at part h j))
