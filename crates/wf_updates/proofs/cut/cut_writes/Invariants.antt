use Rattle.std.proofs.Common.{◌≡◌, filter, take}
use Rattle.wf_model.specs.Bits.{bit}
use Rattle.wf_updates.proofs.cut.cut_writes.Given as goal

abbrev pub invariant-loop-write : goal.invariant-loop-write
invariant-loop-write l = l.cut ≡ filter (λ write. bit l.known write.var.0) (take l.write-index l.writes)
