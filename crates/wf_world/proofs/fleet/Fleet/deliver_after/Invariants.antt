use Rattle.wf_world.proofs.Rounds.{IsDelivering}
use Rattle.wf_world.proofs.fleet.Fleet.deliver_after.Given as goal

abbrev pub invariant-loop-place : goal.invariant-loop-place
invariant-loop-place l = IsDelivering l.fn.self l.before l.place-end l.place l.self
