use Rattle.std.proofs.Common.{◌≡◌, ℕ, [], ◌∷◌, length, map}
use Rattle.std.specs.List.{range_with_len}
use Rattle.wf_histories.specs.Histories.{History}
use Rattle.wf_projection.specs.Merged.{AreTurns}
use Rattle.wf_projection.proofs.Places.{step_of}
use Rattle.wf_projection.proofs.merging.places_in_order.Given as goal

abbrev pub invariant-loop-at : goal.invariant-loop-at
invariant-loop-at l = (h : ℕ → History) → AreTurns l.units h → l.steps ≡ [] ∷ [] ∷ map (step_of (length l.units) h) (range_with_len 0 l.at)
