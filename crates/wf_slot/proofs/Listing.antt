-- The list of a unit's items, by its part and its history.
use Rattle.std.proofs.Common.{◌≡◌, ℕ, zero, suc, ◌+◌, Bool, List, [], ◌∷◌, map, length, refl, sym, ap, ap₂, ◌∙◌, arith}
use Rattle.std.specs.List.{list_any, enumerate_from, zip}
use Rattle.std.proofs.lemmas.List.{length-append, length-map}
use Rattle.wf_model.specs.declared.ids.ActId.{ActId}
use Rattle.wf_model.specs.declared.update.StartAt.{StartAt}
use Rattle.wf_semantics.specs.Items.{Item}
use Rattle.wf_semantics.specs.Admission.{completes}
use Rattle.wf_activities.specs.UnitItems.{UnitItems}
use Rattle.wf_parts.specs.declared.data.PartData.{PartData}
use Rattle.wf_histories.specs.Histories.{History, taken}
use Rattle.wf_histories.specs.Follows.{item_acts, new_acts}
use Rattle.wf_worlds.specs.Admitting.{outers}
use Rattle.wf_bridge.specs.Bridging.{node_items}
use Rattle.wf_steps.specs.Items.{is_completed, items_from, items_of, item_steps, in_order, new_starts, all_at}
use Rattle.wf_worklist.specs.declared.listing.Item.{Item as Listed}
use Rattle.wf_worklist.specs.Worklists.{item_of, worklist_of}

-- there is a step for each activity

one_more : (part : PartData) (h : History) (j : ℕ) → length (map (λ (s : StartAt). suc j) (new_starts part (all_at part h j))) ≡ length (new_acts part (all_at part h j))
unfolding in_order
one_more part h j = length-map (new_starts part (all_at part h j)) (λ s. suc j) ∙ sym (length-map (new_starts part (all_at part h j)) (λ s. s.act))

steps_long : (part : PartData) (h : History) (j : ℕ) → length (item_steps part h j) ≡ length (item_acts part h j)
unfolding item_steps item_acts
steps_long part h zero = refl
steps_long part h (suc j) =
    length-append (item_steps part h j) (map (λ s. suc j) (new_starts part (all_at part h j)))
    ∙ ap₂ (λ (m n : ℕ). m + n) (steps_long part h j) (one_more part h j)
    ∙ sym (length-append (item_acts part h j) (new_acts part (all_at part h j)))

-- the activities of items
acts_of : (closed : ℕ → Bool) (n : ℕ) (acts : List ActId) → map (λ (x : Item). x.act) (items_from closed n acts) ≡ acts
acts_of closed n [] = refl
acts_of closed n (a ∷ acts) = ap (λ (l : List ActId). a ∷ l) (acts_of closed (suc n) acts)

-- the list, without the steps

abbrev pub mark : Listed → ActId × ℕ × Bool
mark item = (item.act, item.number, item.done)

abbrev shown : History → ℕ × ActId → ActId × ℕ × Bool
shown h x = (x.1, x.0, list_any (completes x.0) (outers h.admissions))

marks : (h : History) (k : ℕ) (acts : List ActId) (steps : List ℕ) → length steps ≡ length acts → map mark (map (item_of h) (enumerate_from k (zip acts steps))) ≡ map (shown h) (enumerate_from k acts)
marks h k [] steps same = refl
marks h k (a ∷ acts) [] same = absurd (omega (arith, same))
marks h k (a ∷ acts) (s ∷ steps) same = ap (λ (l : List (ActId × ℕ × Bool)). shown h (k, a) ∷ l) (marks h (k + 1) acts steps (omega (arith, same)))

pub marked_is : (part : PartData) (h : History) (items : UnitItems) → items.items ≡ items_of part h → items.steps ≡ item_steps part h (taken h) → map mark (worklist_of items h) ≡ node_items part h
unfolding worklist_of items_of
marked_is part h items items_are steps_are =
    ap₂ (λ (acts : List ActId) (steps : List ℕ). map mark (map (item_of h) (enumerate_from 1 (zip acts steps))))
    (ap (λ (xs : List Item). map (λ (x : Item). x.act) xs) items_are ∙ acts_of (is_completed h) 1 (item_acts part h (taken h))) steps_are
    ∙ marks h 1 (item_acts part h (taken h)) (item_steps part h (taken h)) (steps_long part h (taken h))
