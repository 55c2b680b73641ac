use Rattle.std.proofs.Common.{◌≡◌, ℕ, ◌<◌, length, take}
use Rattle.std.specs.List.{list_any}
use Rattle.wf_model.specs.Bits.{bit}
use Rattle.wf_semantics.specs.Admission.{completes}
use Rattle.wf_worklist.proofs.listing.completion_bits.Given as goal

abbrev pub invariant-loop-admission : goal.invariant-loop-admission
invariant-loop-admission l = record {
  long : length l.done ≡ l.count;
  bits : (number : ℕ) → number < l.count → bit l.done number ≡ list_any (λ a. completes number a.outer) (take l.admission-index l.admissions);
}
