use Rattle.std.proofs.Common.{◌≡◌, map}
use Rattle.std.specs.List.{range_with_len}
use Rattle.wf_projection.specs.Merged.{unit_places}
use Rattle.wf_world.specs.Sounds.{hist_of}
use Rattle.wf_world.specs.Fleets.{units_of}
use Rattle.wf_world.proofs.fleet.Fleet.merged_list.Given as goal

abbrev pub invariant-loop-unit : goal.invariant-loop-unit
invariant-loop-unit l = l.units ≡ map (λ u. unit_places u (hist_of (units_of l.self.slots) u)) (range_with_len 0 l.unit)
