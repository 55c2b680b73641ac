use Rattle.std.proofs.Common.{◌≡◌, ℕ, List, Some, refl, sym, ap, ◌∙◌, subst}
use Rattle.std.specs.Prelude.{Result, Ok, Err, IsErrOf}
use Rattle.wf_disk.specs.declared.disk.WriteRefused.{WriteRefused}
use Rattle.wf_disk.specs.declared.disk.WriteRefused.TheVariants as write
use Rattle.wf_journal.specs.declared.fault.AppendFault.{AppendFault}
use Rattle.wf_journal.specs.declared.fault.AppendFault.TheVariants as appends
use Rattle.wf_codec.specs.Bodies.{IsBodyOf}
use Rattle.wf_codec.specs.Records.{IsHeadName, record_of}
use Rattle.wf_codec.specs.declared.record.JournalRecord.TheVariants.{Head}
use Rattle.wf_parts.specs.declared.data.PartData.{PartData}
use Rattle.wf_server.proofs.Standing.{Appended}
use Rattle.wf_server.proofs.Stretches.{stretch_none, stretch_as}
use Rattle.wf_server.proofs.Empty.{chart_in_head, unit_in_head}
use Rattle.wf_server.proofs.HeadWrites.{head_stretch, head_open}
use Rattle.wf_server.proofs.Runs.{room_none}
use Rattle.wf_server.proofs.Asked.{room_used}
use Rattle.wf_server.proofs.node.head.write_head.Given.{Over}
use Rattle.wf_server.proofs.node.head.write_head.Goals as goal

said_ok : (g : Over) (c : goal.After-drop-body-inside g) → Appended g.D.Disk.told c.args.journal.now c.append.new.self c.as_slice.result.now c.append.result
said_ok g c = record {
  refused = c.append.ensures.refused;
  other = c.append.ensures.other;
  ok = c.append.ensures.ok;
  no_memory = c.append.ensures.no_memory;
  place = c.append.ensures.place;
  place_kept = c.append.ensures.place_kept;
  failed = c.append.ensures.failed;
  not_failed = c.append.ensures.not_failed;
  tells = c.append.ensures.tells;
  any_moment = c.append.ensures.any_moment;
  fewer = c.append.ensures.fewer;
  four = c.append.ensures.four;
  two = c.append.ensures.two;
  plan = c.append.ensures.plan;
  safe = c.append.ensures.safe;
  cause = c.append.ensures.cause;
  disk_room = c.append.ensures.disk_room;
}

body_ok : (g : Over) (c : goal.After-drop-body-inside g) → IsBodyOf (Head 1 c.args.part.now.chart c.args.part.now.name) c.as_slice.result.now
body_ok g c =
    let body : IsBodyOf (Head 1 c.data-data.result.now.chart c.data-data.result.now.name) c.as_slice.result.now = subst (IsBodyOf (Head 1 c.data-data.result.now.chart c.data-data.result.now.name)) (sym c.as_slice.ensures) c.in-Ok.ensures in
    let P : PartData → Type 0 = λ p. IsBodyOf (Head 1 p.chart p.name) c.as_slice.result.now in
    subst P c.data-data.ensures.same body

read_ok : (g : Over) (c : goal.After-drop-body-inside g) → record_of c.as_slice.result.now ≡ Some (Head 1 c.args.part.now.chart c.args.part.now.name)
read_ok g c = (body_ok g c).read

said_err : (g : Over) (c : goal.After-drop-body-inside-2 g) → Appended g.D.Disk.told c.args.journal.now c.append.new.self c.as_slice.result.now c.append.result
said_err g c = record {
  refused = c.append.ensures.refused;
  other = c.append.ensures.other;
  ok = c.append.ensures.ok;
  no_memory = c.append.ensures.no_memory;
  place = c.append.ensures.place;
  place_kept = c.append.ensures.place_kept;
  failed = c.append.ensures.failed;
  not_failed = c.append.ensures.not_failed;
  tells = c.append.ensures.tells;
  any_moment = c.append.ensures.any_moment;
  fewer = c.append.ensures.fewer;
  four = c.append.ensures.four;
  two = c.append.ensures.two;
  plan = c.append.ensures.plan;
  safe = c.append.ensures.safe;
  cause = c.append.ensures.cause;
  disk_room = c.append.ensures.disk_room;
}

body_err : (g : Over) (c : goal.After-drop-body-inside-2 g) → IsBodyOf (Head 1 c.args.part.now.chart c.args.part.now.name) c.as_slice.result.now
body_err g c =
    let body : IsBodyOf (Head 1 c.data-data.result.now.chart c.data-data.result.now.name) c.as_slice.result.now = subst (IsBodyOf (Head 1 c.data-data.result.now.chart c.data-data.result.now.name)) (sym c.as_slice.ensures) c.in-Ok.ensures in
    let P : PartData → Type 0 = λ p. IsBodyOf (Head 1 p.chart p.name) c.as_slice.result.now in
    subst P c.data-data.ensures.same body

read_err : (g : Over) (c : goal.After-drop-body-inside-2 g) → record_of c.as_slice.result.now ≡ Some (Head 1 c.args.part.now.chart c.args.part.now.name)
read_err g c = (body_err g c).read

ok_not_failed : IsErrOf {T = Unit {0}} {E = WriteRefused} (Ok tt) write.Failed → ⊥
ok_not_failed e = cc e

memory_not_failed : IsErrOf {T = Unit {0}} {E = WriteRefused} (Err write.NoMemory) write.Failed → ⊥
memory_not_failed e = cc e

ok_no_fault : (r : Result (Unit {0}) AppendFault) → r ≡ Ok tt → IsErrOf r appends.DiskFailed → ⊥
ok_no_fault r is e = let unlike : ◌≡◌ {A = Result (Unit {0}) AppendFault} (Ok tt) (Err appends.DiskFailed) = sym is ∙ e in cc unlike

err_is : {x y : AppendFault} → ◌≡◌ {A = Result (Unit {0}) AppendFault} (Err x) (Err y) → x ≡ y
err_is e = cc e

refused_is : {x y : WriteRefused} → ◌≡◌ {A = Result (Unit {0}) WriteRefused} (Err x) (Err y) → x ≡ y
refused_is e = cc e

pub encode_head-requires-clause-chart : goal.encode_head-requires-clause-chart
encode_head-requires-clause-chart g c = subst (λ (p : PartData). IsHeadName p.chart) (sym c.data-data.ensures.same) (chart_in_head c.args.part.now c.data-data.ensures.part)

pub encode_head-requires-clause-unit : goal.encode_head-requires-clause-unit
encode_head-requires-clause-unit g c = subst (λ (p : PartData). IsHeadName p.name) (sym c.data-data.ensures.same) (unit_in_head c.args.part.now c.data-data.ensures.part)

pub returns-in_default-clause-stretch : goal.returns-in_default-clause-stretch
returns-in_default-clause-stretch g c = stretch_none c.args.part.now (g.D.Disk.told c.args.journal.now.disk) 4 _ (g.met.D.Disk.lawful c.args.journal.now.disk) memory_not_failed

pub returns-in-Ok-append-clause-stretch : goal.returns-in-Ok-append-clause-stretch
returns-in-Ok-append-clause-stretch g c =
    stretch_as c.args.part.now (g.D.Disk.told c.args.journal.now.disk) (g.D.Disk.told c.append.new.self.disk) 4 (IsErrOf c.append.result appends.DiskFailed) _
    (λ e. absurd (ok_no_fault c.append.result c.in-Ok-append.is e)) (λ e. absurd (ok_not_failed e))
    (head_stretch g.D.Disk.told g.met.D.Disk.lawful c.args.journal.now c.append.new.self c.as_slice.result.now c.append.result (said_ok g c) c.args.part.now c.requires.healthy c.requires.empty (read_ok g c))

pub returns-in-Ok-append-clause-begun : goal.returns-in-Ok-append-clause-begun
returns-in-Ok-append-clause-begun g c = head_open g.D.Disk.told g.met.D.Disk.lawful c.args.journal.now c.append.new.self c.as_slice.result.now c.append.result (said_ok g c) c.args.part.now c.requires.healthy c.requires.empty (read_ok g c) c.in-Ok-append.is

pub returns-clause-stretch : goal.returns-clause-stretch
returns-clause-stretch g c =
    stretch_as c.args.part.now (g.D.Disk.told c.args.journal.now.disk) (g.D.Disk.told c.append.new.self.disk) 4 (IsErrOf c.append.result appends.DiskFailed) _
    (λ e. ap Err (c.unwritten_by.ensures.1 (err_is (sym c.in-Err.is ∙ e)))) (λ e. c.in-Err.is ∙ ap Err (c.unwritten_by.ensures.0 (refused_is e)))
    (head_stretch g.D.Disk.told g.met.D.Disk.lawful c.args.journal.now c.append.new.self c.as_slice.result.now c.append.result (said_err g c) c.args.part.now c.requires.healthy c.requires.empty (read_err g c))

pub returns-in_default-clause-room : goal.returns-in_default-clause-room
returns-in_default-clause-room g c = room_none (g.D.Disk.told c.args.journal.now.disk) (g.met.D.Disk.lawful c.args.journal.now.disk) _ _

pub returns-in-Ok-append-clause-room : goal.returns-in-Ok-append-clause-room
returns-in-Ok-append-clause-room g c = room_used g.D.Disk.told c.args.journal.now c.append.new.self (Head 1 c.args.part.now.chart c.args.part.now.name) c.as_slice.result.now (body_ok g c) c.append.result (said_ok g c)

pub returns-clause-room : goal.returns-clause-room
returns-clause-room g c = room_used g.D.Disk.told c.args.journal.now c.append.new.self (Head 1 c.args.part.now.chart c.args.part.now.name) c.as_slice.result.now (body_err g c) c.append.result (said_err g c)
