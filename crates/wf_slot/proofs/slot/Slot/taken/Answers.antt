use Rattle.std.proofs.Common.{◌≡◌, ap, length, List}
use Rattle.wf_parts.specs.declared.data.PartData.{PartData}
use Rattle.wf_histories.specs.Histories.{History, TurnDone, taken}
use Rattle.wf_slot.proofs.Seats.{not_away}
use Rattle.wf_slot.proofs.Reading.{of_unit, of_remains, steps_of}
use Rattle.wf_slot.proofs.slot.Slot.taken.Goals as goal

pub returns-in-Up : goal.returns-in-Up
returns-in-Up c = of_unit _ _ _ _ c.self.view_is c.in-Up.node c.in-Up.is (λ (part : PartData) (past : History). c.taken.result ≡ taken past) c.taken.ensures

pub returns-in-Down : goal.returns-in-Down
returns-in-Down c =
    of_remains _ _ _ _ c.self.view_is c.in-Down.remains c.in-Down.is (λ (part : PartData) (past : History). length c.turns.result.now ≡ taken past)
    (steps_of c.in-Down.remains.past.past (length c.turns.result.now) (ap (λ (turns : List TurnDone). length turns) c.turns.ensures))

pub unreachable-requires : goal.unreachable-requires
unreachable-requires c = not_away _ _ _ c.self.invariant c.in-Away.is

pub unreachable-unreachable : goal.unreachable-unreachable
unreachable-unreachable c = c.unreachable.result
