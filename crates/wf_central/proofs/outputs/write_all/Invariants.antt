use Rattle.std.proofs.Common.{◌≡◌, take}
use Rattle.wf_semantics.specs.Effects.{after_outputs}
use Rattle.wf_central.proofs.outputs.write_all.Given as goal

abbrev pub invariant-loop-output : goal.invariant-loop-output
invariant-loop-output l = l.store ≡ after_outputs (take l.output-index l.outputs) l.initial.store
