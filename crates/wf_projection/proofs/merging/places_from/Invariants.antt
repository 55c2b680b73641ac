use Rattle.std.proofs.Common.{◌≡◌, ◌+◌, ◌-◌, map}
use Rattle.std.specs.List.{range_with_len}
use Rattle.wf_machine.specs.Machine.{place_of}
use Rattle.wf_projection.proofs.merging.places_from.Given as goal

abbrev pub invariant-loop-number : goal.invariant-loop-number
invariant-loop-number l = l.places ≡ map (place_of l.unit.0) (range_with_len (l.before + 1) (l.number - l.before))
