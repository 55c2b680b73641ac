use Rattle.std.proofs.Common.{◌≡◌, map, take}
use Rattle.wf_slot.proofs.Listing.{mark}
use Rattle.wf_slot.proofs.slot.showing.marked_items.Given as goal

abbrev pub invariant-loop-item : goal.invariant-loop-item
invariant-loop-item l = l.marked ≡ map mark (take l.item-index l.items)
