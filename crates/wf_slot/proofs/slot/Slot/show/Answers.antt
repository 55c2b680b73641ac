use Rattle.std.proofs.Common.{◌∙◌, None, refl}
use Rattle.wf_slot.proofs.Seats.{not_away}
use Rattle.wf_slot.proofs.Reading.{up_sight, up_shows, down_shows}
use Rattle.wf_slot.proofs.slot.Slot.show.Goals as goal

pub returns-in_ok-sight-in-Up-clause-sight : goal.returns-in_ok-sight-in-Up-clause-sight
returns-in_ok-sight-in-Up-clause-sight c =
    up_sight _ _ _ _ c.self.view_is c.in-Up.node c.in-Up.is _ _ _ _ _ c.in_ok-sight-in-Up.ensures (c.data-part.ensures.same ∙ c.part.ensures) c.view.ensures c.taken-taken.ensures c.admitted-admitted.ensures

pub returns-in_ok-sight-in-Up-clause-down : goal.returns-in_ok-sight-in-Up-clause-down
returns-in_ok-sight-in-Up-clause-down c = up_shows _ _ _ _ c.self.view_is c.in-Up.node c.in-Up.is _

pub returns-in-Down-clause-down : goal.returns-in-Down-clause-down
returns-in-Down-clause-down c = down_shows _ _ _ _ c.self.view_is c.in-Down.field-0 c.in-Down.is None refl

pub unreachable-requires : goal.unreachable-requires
unreachable-requires c = not_away _ _ _ c.self.invariant c.in-Away.is

pub unreachable-unreachable : goal.unreachable-unreachable
unreachable-unreachable c = c.unreachable.result
