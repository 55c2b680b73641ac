use Rattle.std.proofs.Common.{◌≡◌, refl}
use Rattle.wf_parts.specs.declared.data.PartData.{PartData}
use Rattle.wf_histories.specs.Histories.{History}
use Rattle.wf_slot.proofs.Seats.{not_away}
use Rattle.wf_slot.proofs.Reading.{of_unit, of_remains}
use Rattle.wf_slot.proofs.slot.Slot.history.Goals as goal

pub returns-in-Up : goal.returns-in-Up
returns-in-Up c = of_unit _ _ _ _ c.self.view_is c.in-Up.node c.in-Up.is (λ (part : PartData) (past : History). c.history.result.now.past ≡ past) c.history.ensures.past

pub returns-in-Down : goal.returns-in-Down
returns-in-Down c = of_remains _ _ _ _ c.self.view_is c.in-Down.remains c.in-Down.is (λ (part : PartData) (past : History). c.in-Down.remains.past.past ≡ past) refl

pub unreachable-requires : goal.unreachable-requires
unreachable-requires c = not_away _ _ _ c.self.invariant c.in-Away.is

pub unreachable-unreachable : goal.unreachable-unreachable
unreachable-unreachable c = c.unreachable.result
