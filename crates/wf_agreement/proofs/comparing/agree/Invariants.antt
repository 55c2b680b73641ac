use Rattle.std.proofs.Common.{◌≡◌, ℕ, length}
use Rattle.wf_parts.specs.declared.data.PartData.{PartData}
use Rattle.wf_histories.specs.Histories.{History}
use Rattle.wf_agreement.specs.Differing.{AreOf, inputs_in, most_taken, first_of, first_difference}
use Rattle.wf_agreement.proofs.Finding.{from_on}
use Rattle.wf_agreement.proofs.comparing.agree.Given as goal

abbrev pub invariant-loop-at : goal.invariant-loop-at
invariant-loop-at l = (part : ℕ → PartData) (h : ℕ → History) → AreOf l.parts l.histories part h → first_of part h (from_on (inputs_in (length l.parts) h) l.at (most_taken (length l.parts) h)) ≡ first_difference (length l.parts) part h
