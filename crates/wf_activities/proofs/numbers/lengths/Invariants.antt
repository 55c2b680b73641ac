use Rattle.std.proofs.Common.{◌≡◌, length, map, take}
use Rattle.wf_activities.specs.UnitItems.{UnitItems}
use Rattle.wf_activities.proofs.numbers.lengths.Given as goal

abbrev pub invariant-loop-unit : goal.invariant-loop-unit
invariant-loop-unit l = l.counts.items ≡ map (λ (i : UnitItems). length i.items) (take l.unit-index l.units)
