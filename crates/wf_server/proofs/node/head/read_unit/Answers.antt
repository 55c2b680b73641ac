use Rattle.std.proofs.Common.{◌≡◌, ◌+◌, ◌≤◌, arith, refl, sym, ap, ◌∙◌, subst}
use Rattle.std.specs.Prelude.{Result, Ok, Err, IsErrOf, IsErrAnd}
use Rattle.wf_disk.specs.declared.disk.WriteRefused.{WriteRefused}
use Rattle.wf_disk.specs.declared.disk.WriteRefused.TheVariants as write
use Rattle.wf_steps.specs.declared.fault.RecoverFault.TheVariants as recovery
use Rattle.wf_server.specs.Heads.{Stretch, most_head}
use Rattle.wf_server.proofs.Stretches.{stretch_same, stretch_more, stretch_then}
use Rattle.wf_server.proofs.Rooms.{head_room_then}
use Rattle.wf_server.proofs.Joins.{open_same, read_ok, read_end, read_err, stretch_ok, stretch_err}
use Rattle.wf_server.proofs.node.head.read_unit.Given.{Over}
use Rattle.wf_server.proofs.node.head.read_unit.Goals as goal

ok_no_fault : (r : Result (Unit {0}) WriteRefused) → r ≡ Ok tt → IsErrOf r write.Failed → ⊥
ok_no_fault r is e = let unlike : ◌≡◌ {A = Result (Unit {0}) WriteRefused} (Ok tt) (Err write.Failed) = sym is ∙ e in cc unlike

pub returns-in-Ok-clause-history : goal.returns-in-Ok-clause-history
returns-in-Ok-clause-history g c =
    read_ok c.args.part (g.D.Disk.told c.args.journal.now.disk) (g.D.Disk.told c.begin.new.journal.disk) c.begin.ensures.stretch.keeps c.begin.ensures.stretch.runs.tells c.in-Ok.ensures.begun.readable c.recover.result (λ r. r.past) c.recover.ensures.history

pub returns-in-Ok-clause-fault : goal.returns-in-Ok-clause-fault
returns-in-Ok-clause-fault g c =
    read_err c.args.part (g.D.Disk.told c.args.journal.now.disk) (g.D.Disk.told c.begin.new.journal.disk) c.begin.ensures.stretch.keeps c.begin.ensures.stretch.runs.tells c.in-Ok.ensures.begun.readable c.recover.result (λ r. r.fault) c.recover.ensures.fault

pub returns-in-Ok-clause-stretch : goal.returns-in-Ok-clause-stretch
returns-in-Ok-clause-stretch g c =
    let old = g.D.Disk.told c.args.journal.now.disk in
    let mid = g.D.Disk.told c.begin.new.journal.disk in
    let new = g.D.Disk.told c.recover.new.journal.disk in
    stretch_ok c.args.part old new (most_head old.image) c.recover.result (λ refused. refused.fault ≡ recovery.DiskFailed)
    (stretch_more c.args.part old new (most_head old.image + 0) (most_head old.image) (IsErrAnd c.recover.result (λ refused. refused.fault ≡ recovery.DiskFailed)) (omega arith)
    (stretch_then c.args.part old mid new (most_head old.image) 0 (IsErrOf c.begin.result write.Failed) (IsErrAnd c.recover.result (λ refused. refused.fault ≡ recovery.DiskFailed))
    (ok_no_fault c.begin.result c.in-Ok.is) c.begin.ensures.stretch.runs.within (g.met.D.Disk.lawful c.begin.new.journal.disk) c.begin.ensures.stretch
    (stretch_same c.args.part mid new (IsErrAnd c.recover.result (λ refused. refused.fault ≡ recovery.DiskFailed)) (g.met.D.Disk.lawful c.begin.new.journal.disk) c.recover.ensures.same c.recover.ensures.down c.recover.ensures.cause)))

pub returns-in-Ok-clause-stretch_refused : goal.returns-in-Ok-clause-stretch_refused
returns-in-Ok-clause-stretch_refused g c =
    let old = g.D.Disk.told c.args.journal.now.disk in
    let mid = g.D.Disk.told c.begin.new.journal.disk in
    let new = g.D.Disk.told c.recover.new.journal.disk in
    stretch_err c.args.part old new (most_head old.image) c.recover.result (λ refused. refused.fault ≡ recovery.DiskFailed)
    (stretch_more c.args.part old new (most_head old.image + 0) (most_head old.image) (IsErrAnd c.recover.result (λ refused. refused.fault ≡ recovery.DiskFailed)) (omega arith)
    (stretch_then c.args.part old mid new (most_head old.image) 0 (IsErrOf c.begin.result write.Failed) (IsErrAnd c.recover.result (λ refused. refused.fault ≡ recovery.DiskFailed))
    (ok_no_fault c.begin.result c.in-Ok.is) c.begin.ensures.stretch.runs.within (g.met.D.Disk.lawful c.begin.new.journal.disk) c.begin.ensures.stretch
    (stretch_same c.args.part mid new (IsErrAnd c.recover.result (λ refused. refused.fault ≡ recovery.DiskFailed)) (g.met.D.Disk.lawful c.begin.new.journal.disk) c.recover.ensures.same c.recover.ensures.down c.recover.ensures.cause)))

pub returns-in-Ok-clause-end : goal.returns-in-Ok-clause-end
returns-in-Ok-clause-end g c =
    read_end c.args.part (g.D.Disk.told c.args.journal.now.disk) (g.D.Disk.told c.begin.new.journal.disk) c.begin.ensures.stretch.keeps c.begin.ensures.stretch.runs.tells c.in-Ok.ensures.begun.readable c.recover.result (λ r. r.part) (λ r. r.past) (g.D.Disk.told c.recover.new.journal.disk)
    c.in-Ok.ensures.begun.begun c.recover.ensures.same.image c.recover.ensures.end

pub returns-in-Ok-clause-begun : goal.returns-in-Ok-clause-begun
returns-in-Ok-clause-begun g c = open_same c.recover.result (g.D.Disk.told c.begin.new.journal.disk) (g.D.Disk.told c.recover.new.journal.disk) c.in-Ok.ensures.begun c.recover.ensures.same

pub returns-in-Ok-clause-room : goal.returns-in-Ok-clause-room
returns-in-Ok-clause-room g c = head_room_then c.args.part (g.D.Disk.told c.args.journal.now.disk) (g.D.Disk.told c.begin.new.journal.disk) (g.D.Disk.told c.recover.new.journal.disk) c.begin.ensures.room c.recover.ensures.same
