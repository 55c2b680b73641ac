use Rattle.std.proofs.Common.{◌≡◌}
use Rattle.wf_parts.specs.declared.data.PartData.{PartData}
use Rattle.wf_histories.specs.Histories.{History}
use Rattle.wf_slot.proofs.Seats.{not_away}
use Rattle.wf_slot.proofs.Reading.{of_unit, up_holds, not_works}
use Rattle.wf_slot.proofs.slot.Slot.close.Goals as goal

pub returns-in-Up-clause-part : goal.returns-in-Up-clause-part
returns-in-Up-clause-part c = of_unit _ _ _ _ c.self.view_is c.in-Up.node c.in-Up.is (λ (part : PartData) (past : History). c.close-part.result.0 ≡ part) c.close-part.ensures.part

pub returns-in-Up-clause-image : goal.returns-in-Up-clause-image
returns-in-Up-clause-image c = up_holds _ _ _ _ c.self.view_is c.in-Up.node c.in-Up.is c.requires c.disk-disk.ensures.stands c.close-part.result.1 c.close-part.ensures.disk

pub returns-in-Down-clause-part : goal.returns-in-Down-clause-part
returns-in-Down-clause-part c = absurd (not_works _ _ _ _ c.self.view_is c.in-Down.remains c.in-Down.is c.requires)

pub returns-in-Down-clause-image : goal.returns-in-Down-clause-image
returns-in-Down-clause-image c = absurd (not_works _ _ _ _ c.self.view_is c.in-Down.remains c.in-Down.is c.requires)

pub unreachable-requires : goal.unreachable-requires
unreachable-requires c = not_away _ _ _ c.self.invariant c.in-Away.is

pub unreachable-unreachable : goal.unreachable-unreachable
unreachable-unreachable c = c.unreachable.result
