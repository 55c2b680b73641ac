use Rattle.std.proofs.Common.{sym, subst}
use Rattle.wf_disk.specs.Memory.{Held, disarmed, told_of}
use Rattle.wf_journal.specs.State.{IsReady}
use Rattle.wf_journal.proofs.journal.Journal+MemDisk.disarm.Goals as goal

pub invariant_of-self : goal.invariant_of-self
invariant_of-self c =
    let ready : IsReady (told_of (disarmed c.self.inside.disk)) c.self.inside.place c.self.inside.failed = λ fine file is. let was = c.self.invariant fine file is in record { rests = was.rests; only = was.only } in
    subst (λ (disk : Held). IsReady (told_of disk) c.self.inside.place c.self.inside.failed) (sym c.disarm.ensures) ready
