use Rattle.std.proofs.Common.{◌≡◌, map}
use Rattle.std.specs.List.{range_with_len}
use Rattle.wf_machine.specs.Sights.{sight_of}
use Rattle.wf_world.specs.Fleets.{machine_at}
use Rattle.wf_world.proofs.fleet.Fleet.sights.Given as goal

abbrev pub invariant-loop-unit : goal.invariant-loop-unit
invariant-loop-unit l = l.sights ≡ map (sight_of l.self.chart (machine_at l.self)) (range_with_len 0 l.unit)
