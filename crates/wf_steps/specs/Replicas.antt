-- Inner. What a unit keeps of its history without a disk.
use Rattle.std.specs.Prelude.{ℕ, suc, ◌≡◌, ◌+◌, List, Option, sum, insert, IsTrue}
use Rattle.wf_model.specs.declared.ids.ActId.{ActId}
use Rattle.wf_model.specs.declared.outer.Outer.{Outer}
use Rattle.wf_model.specs.declared.outer.Outer.TheVariants.{Happen, Complete}
use Rattle.wf_model.specs.declared.update.StartAt.{StartAt}
use Rattle.wf_model.specs.declared.update.Update.{Update}
use Rattle.wf_parts.specs.declared.data.PartData.{PartData}
use Rattle.wf_semantics.specs.Items.{Item, item_at, close}
use Rattle.wf_activities.specs.UnitItems.{UnitItems, is_open}
use Rattle.wf_views.specs.Views.{View}
use Rattle.wf_histories.specs.Histories.{History, seals, taken, local, local_update}
use Rattle.wf_worlds.specs.Growing.{turned}
use Rattle.wf_steps.specs.declared.prepared.Prepared.{Prepared}
use Rattle.wf_steps.specs.Items.{own_acts, items_of, item_steps, new_starts}
use Rattle.wf_steps.specs.Growing.{IsMade, place_of, sealing}

-- all else that a unit keeps is what the definitions make of its part and its history
pub record IsReplica (part : PartData) (acts : List ActId) (past : History) (view : View) (items : UnitItems) (last next : Update) (sealed : ℕ) (index : ℕ → Option ℕ) : Type 0 where
  pub made : IsMade part past
  pub acts_are : acts ≡ own_acts part
  pub view_is : view ≡ local part past (taken past)
  pub items_are : items.items ≡ items_of part past
  pub steps_are : items.steps ≡ item_steps part past (taken past)
  pub last_is : last ≡ local_update part past (taken past)
  pub next_is : next ≡ local_update part past (suc (taken past))
  pub sealed_is : sealed ≡ sum (seals past)
  pub index_is : (request : ℕ) → index request ≡ place_of past request

-- what the Turn that takes in these updates leaves: itself, the view, the next own update, and the starts of the new items
abbrev pub prepared_of : PartData → History → List Update → Prepared
prepared_of part past inputs =
    record {
      done = record { step = taken past + 1; inputs = inputs; sealed = sealing past };
      view = local part (turned past inputs) (suc (taken past));
      next = local_update part (turned past inputs) (suc (suc (taken past)));
      starts = new_starts part (insert inputs part.unit.0 (local_update part past (suc (taken past))));
    }

-- the items, the one that is completed being closed
abbrev pub closed_by : Outer → List Item → List Item
closed_by (Happen e) items = items
closed_by (Complete n a outputs) items = close n items

-- the item that is completed is there and open
abbrev pub MayClose : Outer → List Item → Type 0
MayClose (Happen e) items = Unit {0}
MayClose (Complete n a outputs) items = IsTrue (is_open (item_at items n))
