use Rattle.std.proofs.Common.{◌≡◌, take}
use Rattle.wf_model.specs.Bits.{bit}
use Rattle.wf_updates.specs.After.{events_among}
use Rattle.wf_updates.proofs.after.events_among.Given as goal

abbrev pub invariant-loop-event : goal.invariant-loop-event
invariant-loop-event l = l.ids ≡ events_among (take l.event-index l.known) (bit l.raised)
