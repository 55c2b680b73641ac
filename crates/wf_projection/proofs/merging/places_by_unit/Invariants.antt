use Rattle.std.proofs.Common.{◌≡◌, ℕ, map}
use Rattle.std.specs.List.{range_with_len}
use Rattle.wf_histories.specs.Histories.{History}
use Rattle.wf_projection.specs.Merged.{AreOf, unit_places}
use Rattle.wf_projection.proofs.merging.places_by_unit.Given as goal

abbrev pub invariant-loop-unit : goal.invariant-loop-unit
invariant-loop-unit l = (h : ℕ → History) → AreOf l.histories h → l.units ≡ map (λ u. unit_places u (h u)) (range_with_len 0 l.unit)
