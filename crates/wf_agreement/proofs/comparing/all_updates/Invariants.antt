use Rattle.std.proofs.Common.{◌≡◌, ℕ, length}
use Rattle.wf_parts.specs.declared.data.PartData.{PartData}
use Rattle.wf_histories.specs.Histories.{History}
use Rattle.wf_agreement.specs.Differing.{AreOf}
use Rattle.wf_agreement.specs.Senders.{all_updates}
use Rattle.wf_agreement.proofs.comparing.all_updates.Given as goal

abbrev pub invariant-loop-unit : goal.invariant-loop-unit
invariant-loop-unit l = record {
  same : length l.units ≡ l.unit;
  units : (part : ℕ → PartData) (h : ℕ → History) → AreOf l.parts l.histories part h → l.units ≡ all_updates l.unit part h;
}
