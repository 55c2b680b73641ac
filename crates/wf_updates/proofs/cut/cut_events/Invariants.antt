use Rattle.std.proofs.Common.{◌≡◌, filter, take}
use Rattle.wf_model.specs.Bits.{bit}
use Rattle.wf_updates.proofs.cut.cut_events.Given as goal

abbrev pub invariant-loop-event : goal.invariant-loop-event
invariant-loop-event l = l.cut ≡ filter (λ e. bit l.known e.0) (take l.event-index l.events)
