use Rattle.std.proofs.Common.{◌≡◌, length}
use Rattle.wf_world.specs.Fleets.{AreNew}
use Rattle.wf_world.proofs.fleet.starting.new_slots.Given as goal

abbrev pub invariant-loop-unit : goal.invariant-loop-unit
invariant-loop-unit l = record { count : length l.slots.items ≡ l.unit; new : AreNew l.checked l.slots.items }
