use Rattle.std.proofs.Common.{◌≡◌, ℕ}
use Rattle.wf_histories.specs.Histories.{History, taken}
use Rattle.wf_projection.specs.Merged.{AreTurns}
use Rattle.wf_projection.proofs.Places.{least_up}
use Rattle.wf_projection.proofs.merging.least_taken.Given as goal

abbrev pub invariant-loop-turns : goal.invariant-loop-turns
invariant-loop-turns l = (h : ℕ → History) → AreTurns l.units h → l.least ≡ least_up (λ u. taken (h u)) l.turns-index
