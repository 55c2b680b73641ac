use Rattle.std.proofs.Common.{take}
use Rattle.std.specs.List.{AllByRecursion}
use Rattle.wf_codec.specs.Ranges.{IsHeldValue}
use Rattle.wf_slot.proofs.held.keep_writes.Given as goal

abbrev pub invariant-loop-write : goal.invariant-loop-write
invariant-loop-write l = AllByRecursion (λ x. IsHeldValue x.val) (take l.write-index l.writes)
