use Rattle.std.proofs.Common.{None, refl}
use Rattle.wf_slot.proofs.Seats.{not_away}
use Rattle.wf_slot.proofs.Reading.{up_items, up_shows, down_shows}
use Rattle.wf_slot.proofs.slot.Slot.items.Goals as goal

pub returns-in_ok-items_of-in-Up-clause-items : goal.returns-in_ok-items_of-in-Up-clause-items
returns-in_ok-items_of-in-Up-clause-items c = up_items _ _ _ _ c.self.view_is c.in-Up.node c.in-Up.is _ c.in_ok-items_of-in-Up.ensures

pub returns-in_ok-items_of-in-Up-clause-down : goal.returns-in_ok-items_of-in-Up-clause-down
returns-in_ok-items_of-in-Up-clause-down c = up_shows _ _ _ _ c.self.view_is c.in-Up.node c.in-Up.is _

pub returns-in-Down-clause-down : goal.returns-in-Down-clause-down
returns-in-Down-clause-down c = down_shows _ _ _ _ c.self.view_is c.in-Down.field-0 c.in-Down.is None refl

pub unreachable-requires : goal.unreachable-requires
unreachable-requires c = not_away _ _ _ c.self.invariant c.in-Away.is

pub unreachable-unreachable : goal.unreachable-unreachable
unreachable-unreachable c = c.unreachable.result
