use Rattle.std.proofs.Common.{◌≡◌, ℕ, map, drop, length}
use Rattle.wf_parts.specs.declared.data.PartData.{PartData}
use Rattle.wf_histories.specs.Histories.{History}
use Rattle.wf_agreement.specs.Differing.{read_by, first_of}
use Rattle.wf_agreement.specs.Senders.{AreSenders}
use Rattle.wf_agreement.proofs.comparing.first_in_turn.Given as goal

abbrev pub invariant-loop-kept : goal.invariant-loop-kept
invariant-loop-kept l = (part : ℕ → PartData) (h : ℕ → History) → AreSenders (length l.parts) l.parts l.units part h → first_of part h (map (read_by l.reader.0) (drop l.kept-index l.inputs)) ≡ first_of part h (map (read_by l.reader.0) l.inputs)
