use Rattle.std.proofs.Common.{◌≡◌, length}
use Rattle.wf_world.proofs.Rounds.{IsTurning}
use Rattle.wf_world.proofs.fleet.Fleet.turn_all.Given as goal

abbrev pub invariant-loop-unit : goal.invariant-loop-unit
invariant-loop-unit l = record { so_far : IsTurning l.fn.self l.unit-end l.unit l.self l.replies; long : l.unit-end ≡ length l.fn.self.slots }
