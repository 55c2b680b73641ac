use Rattle.std.proofs.Common.{take}
use Rattle.std.specs.List.{AllByRecursion}
use Rattle.wf_codec.specs.Ranges.{IsHeldValue}
use Rattle.wf_slot.proofs.held.keep_outputs.Given as goal

abbrev pub invariant-loop-output : goal.invariant-loop-output
invariant-loop-output l = AllByRecursion (λ x. IsHeldValue x.val) (take l.output-index l.outputs)
