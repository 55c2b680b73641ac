use Rattle.std.proofs.Common.{◌≡◌, take}
use Rattle.wf_actions.specs.Events.{numbers_of}
use Rattle.wf_actions.proofs.events.numbers.Given as goal

abbrev pub invariant-loop-event : goal.invariant-loop-event
invariant-loop-event l = l.all.items ≡ numbers_of (take l.event-index l.events)
