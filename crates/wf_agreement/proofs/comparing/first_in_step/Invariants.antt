use Rattle.std.proofs.Common.{◌≡◌, ℕ, length}
use Rattle.wf_parts.specs.declared.data.PartData.{PartData}
use Rattle.wf_histories.specs.Histories.{History}
use Rattle.wf_agreement.specs.Differing.{AreOf, inputs_of, inputs_in, first_of}
use Rattle.wf_agreement.specs.Senders.{AreSenders}
use Rattle.wf_agreement.proofs.Finding.{from_on}
use Rattle.wf_agreement.proofs.comparing.first_in_step.Given as goal

abbrev pub invariant-loop-unit : goal.invariant-loop-unit
invariant-loop-unit l = (part : ℕ → PartData) (h : ℕ → History) → AreOf l.parts l.histories part h → AreSenders (length l.parts) l.parts l.units part h → first_of part h (from_on (inputs_of h l.at) l.unit (length l.parts)) ≡ first_of part h (inputs_in (length l.parts) h l.at)
