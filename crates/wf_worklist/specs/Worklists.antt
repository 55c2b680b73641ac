-- Of other calls. The list of a unit's items.
use Rattle.std.specs.Prelude.{ℕ, List, map}
use Rattle.std.specs.List.{enumerate_from}
use Rattle.wf_model.specs.declared.ids.ActId.{ActId}
use Rattle.wf_activities.specs.UnitItems.{UnitItems, started_of}
use Rattle.wf_histories.specs.Histories.{History}
use Rattle.wf_steps.specs.Items.{is_completed}
use Rattle.wf_worklist.specs.declared.listing.Item.{Item}

-- an item by its number, with its activity and the step of its start; it is done exactly if an admission completes it
abbrev pub item_of : History → ℕ × (ActId × ℕ) → Item
item_of h x = record { number = x.0; act = x.1.0; step = x.1.1; done = is_completed h x.0 }

-- THE LIST: the items in order of number, from 1 on
unfoldable pub worklist_of : UnitItems → History → List Item
worklist_of items h = map (item_of h) (enumerate_from 1 (started_of items))
