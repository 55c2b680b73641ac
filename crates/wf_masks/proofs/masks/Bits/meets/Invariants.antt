use Rattle.std.proofs.Common.{◌≡◌, ◌*◌, ◌<◌, ◌&&◌, ℕ, false}
use Rattle.wf_model.specs.Bits.{bit}
use Rattle.wf_masks.proofs.masks.Bits.meets.Given as goal

abbrev pub invariant-loop-at : goal.invariant-loop-at
invariant-loop-at g l = (i : ℕ) → i < 64 * l.at → (bit l.self i && bit l.other i) ≡ false
