use Rattle.std.proofs.Common.{◌≡◌, ◌++◌}
use Rattle.std.specs.Vec.Iter.{into_iter_items}
use Rattle.wf_world.specs.Fleets.{HaveDisks}
use Rattle.wf_world.proofs.fleet.Fleet.close.Given as goal

abbrev pub invariant-loop-slot : goal.invariant-loop-slot
invariant-loop-slot l = (l.yielded ++ into_iter_items l.slot-iterator ≡ into_iter_items l.initial.slot-iterator) × HaveDisks l.yielded l.disks
