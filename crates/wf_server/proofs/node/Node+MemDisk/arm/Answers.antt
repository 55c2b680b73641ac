use Rattle.std.proofs.Common.{refl}
use Rattle.wf_disk.specs.Memory.{told_of}
use Rattle.wf_server.proofs.Lending.{moved}
use Rattle.wf_server.proofs.node.Node+MemDisk.arm.Goals as goal

pub invariant_of-self : goal.invariant_of-self
invariant_of-self c = moved told_of _ _ _ _ _ _ _ c.arm.ensures refl (λ image may. may) c.self.invariant
