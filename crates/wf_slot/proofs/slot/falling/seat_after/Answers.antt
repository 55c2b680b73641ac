use Rattle.std.proofs.Common.{refl, sym, subst}
use Rattle.wf_disk.specs.declared.arm.Arm.{Arm}
use Rattle.wf_slot.specs.declared.slot.Seat.TheVariants.{Up, Down}
use Rattle.wf_slot.specs.Writes.{BreaksTo}
use Rattle.wf_slot.proofs.slot.falling.seat_after.Goals as goal

pub returns-in-Fail : goal.returns-in-Fail
returns-in-Fail c = subst (λ (what : Arm). BreaksTo c.args.node what (Up c.args.node)) (sym c.in-Fail.is) refl

pub returns-in-Crash : goal.returns-in-Crash
returns-in-Crash c =
    subst (λ (what : Arm). BreaksTo c.args.node what (Down c.remains_of_stopped.result)) (sym c.in-Crash.is)
    (c.remains_of_stopped.result, refl, c.remains_of_stopped.ensures.left, c.remains_of_stopped.ensures.unarmed, c.remains_of_stopped.ensures.few)
