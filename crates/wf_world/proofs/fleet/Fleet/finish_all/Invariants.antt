use Rattle.std.proofs.Common.{◌≡◌, length}
use Rattle.wf_world.specs.Fleets.{IsEnding}
use Rattle.wf_world.proofs.fleet.Fleet.finish_all.Given as goal

abbrev pub invariant-loop-unit : goal.invariant-loop-unit
invariant-loop-unit l = record { so_far : IsEnding l.fn.self l.self l.unit l.recovered; long : l.unit-end ≡ length l.fn.self.slots }
