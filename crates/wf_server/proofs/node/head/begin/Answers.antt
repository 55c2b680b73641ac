use Rattle.std.proofs.Common.{◌≡◌, ◌+◌, ◌≤◌, ℕ, refl, sym, ap, ◌∙◌, arith}
use Rattle.std.specs.Prelude.{Bool, Result, Ok, Err, IsErrOf}
use Rattle.wf_disk.specs.declared.disk.WriteRefused.{WriteRefused}
use Rattle.wf_disk.specs.declared.disk.WriteRefused.TheVariants as write
use Rattle.wf_journal.specs.declared.fault.ReadFault.{ReadFault}
use Rattle.wf_journal.specs.declared.fault.ReadFault.TheVariants as reads
use Rattle.wf_server.specs.Heads.{most_head}
use Rattle.wf_server.proofs.Stretches.{stretch_same, stretch_more, stretch_as, stretch_then}
use Rattle.wf_server.proofs.Joins.{empty_most}
use Rattle.wf_server.proofs.Rooms.{head_room_same, head_room_empty}
use Rattle.wf_server.proofs.node.head.begin.Goals as goal

ok_not_failed : IsErrOf {T = Unit {0}} {E = WriteRefused} (Ok tt) write.Failed → ⊥
ok_not_failed e = cc e

ok_no_fault : (r : Result Bool ReadFault) (found : Bool) → r ≡ Ok found → IsErrOf r reads.DiskFailed → ⊥
ok_no_fault r found is e = let unlike : ◌≡◌ {A = Result Bool ReadFault} (Ok found) (Err reads.DiskFailed) = sym is ∙ e in cc unlike

err_is : {x y : ReadFault} → ◌≡◌ {A = Result Bool ReadFault} (Err x) (Err y) → x ≡ y
err_is e = cc e

refused_is : {x y : WriteRefused} → ◌≡◌ {A = Result (Unit {0}) WriteRefused} (Err x) (Err y) → x ≡ y
refused_is e = cc e

pub returns-in-Ok-true-clause-stretch : goal.returns-in-Ok-true-clause-stretch
returns-in-Ok-true-clause-stretch g c =
    let old = g.D.Disk.told c.args.journal.now.disk in
    let mid = g.D.Disk.told c.has_frame.new.journal.disk in
    stretch_as c.args.part.now old mid (most_head old.image) (IsErrOf c.has_frame.result reads.DiskFailed) _ (λ e. absurd (ok_no_fault c.has_frame.result _ c.in-Ok-true.is e)) (λ e. absurd (ok_not_failed e))
    (stretch_more c.args.part.now old mid 0 (most_head old.image) (IsErrOf c.has_frame.result reads.DiskFailed) (omega arith)
    (stretch_same c.args.part.now old mid (IsErrOf c.has_frame.result reads.DiskFailed) (g.met.D.Disk.lawful c.args.journal.now.disk) c.has_frame.ensures.same c.has_frame.ensures.down c.has_frame.ensures.cause))

pub returns-in-Ok-false-clause-stretch : goal.returns-in-Ok-false-clause-stretch
returns-in-Ok-false-clause-stretch g c =
    let old = g.D.Disk.told c.args.journal.now.disk in
    let mid = g.D.Disk.told c.has_frame.new.journal.disk in
    let clock = c.has_frame.ensures.same.clock in
    stretch_more c.args.part.now old (g.D.Disk.told c.write_head.new.journal.disk) 4 (most_head old.image) (IsErrOf c.write_head.result write.Failed) (empty_most old (c.in-Ok-false.ensures.none c.in-Ok-false.field-0-test))
    (stretch_then c.args.part.now old mid (g.D.Disk.told c.write_head.new.journal.disk) 0 4 (IsErrOf c.has_frame.result reads.DiskFailed) (IsErrOf c.write_head.result write.Failed)
    (ok_no_fault c.has_frame.result _ c.in-Ok-false.is) (omega (arith, clock)) (g.met.D.Disk.lawful c.has_frame.new.journal.disk)
    (stretch_same c.args.part.now old mid (IsErrOf c.has_frame.result reads.DiskFailed) (g.met.D.Disk.lawful c.args.journal.now.disk) c.has_frame.ensures.same c.has_frame.ensures.down c.has_frame.ensures.cause)
    c.write_head.ensures.stretch)

pub returns-in-Err-clause-stretch : goal.returns-in-Err-clause-stretch
returns-in-Err-clause-stretch g c =
    let old = g.D.Disk.told c.args.journal.now.disk in
    let mid = g.D.Disk.told c.has_frame.new.journal.disk in
    stretch_as c.args.part.now old mid (most_head old.image) (IsErrOf c.has_frame.result reads.DiskFailed) _
    (λ e. ap Err (c.unread_by.ensures.1 (err_is (sym c.in-Err.is ∙ e)))) (λ e. c.in-Err.is ∙ ap Err (c.unread_by.ensures.0 (refused_is e)))
    (stretch_more c.args.part.now old mid 0 (most_head old.image) (IsErrOf c.has_frame.result reads.DiskFailed) (omega arith)
    (stretch_same c.args.part.now old mid (IsErrOf c.has_frame.result reads.DiskFailed) (g.met.D.Disk.lawful c.args.journal.now.disk) c.has_frame.ensures.same c.has_frame.ensures.down c.has_frame.ensures.cause))

pub returns-in-Ok-true-clause-room : goal.returns-in-Ok-true-clause-room
returns-in-Ok-true-clause-room g c = head_room_same c.args.part.now (g.D.Disk.told c.args.journal.now.disk) (g.D.Disk.told c.has_frame.new.journal.disk) (g.met.D.Disk.lawful c.has_frame.new.journal.disk) c.has_frame.ensures.same

pub returns-in-Ok-false-clause-room : goal.returns-in-Ok-false-clause-room
returns-in-Ok-false-clause-room g c =
    head_room_empty c.args.part.now (g.D.Disk.told c.args.journal.now.disk) (g.D.Disk.told c.has_frame.new.journal.disk) (g.D.Disk.told c.write_head.new.journal.disk) c.has_frame.ensures.same (c.in-Ok-false.ensures.none c.in-Ok-false.field-0-test) c.write_head.ensures.room

pub returns-in-Err-clause-room : goal.returns-in-Err-clause-room
returns-in-Err-clause-room g c = head_room_same c.args.part.now (g.D.Disk.told c.args.journal.now.disk) (g.D.Disk.told c.has_frame.new.journal.disk) (g.met.D.Disk.lawful c.has_frame.new.journal.disk) c.has_frame.ensures.same
