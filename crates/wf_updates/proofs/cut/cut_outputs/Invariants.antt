use Rattle.std.proofs.Common.{◌≡◌, filter, take}
use Rattle.wf_model.specs.Bits.{bit}
use Rattle.wf_updates.proofs.cut.cut_outputs.Given as goal

abbrev pub invariant-loop-output : goal.invariant-loop-output
invariant-loop-output l = l.cut ≡ filter (λ o. bit l.known o.var.0) (take l.output-index l.outputs)
