use Rattle.std.proofs.Common.{◌≡◌, rules, sym, ap, ◌∙◌, subst}
use Rattle.wf_parts.specs.declared.data.PartData.{PartData}
use Rattle.wf_steps.specs.declared.fault.RecoverFault.TheVariants as recovery
use Rattle.wf_server.specs.declared.fault.NodeFault.{NodeFault}
use Rattle.wf_server.specs.declared.fault.NodeFault.TheVariants as faults
use Rattle.wf_server.specs.Starting.{unrecovered_by}
use Rattle.wf_server.specs.Heads.{Stretch, HeadRoom, most_head}
use Rattle.wf_disk.proofs.Runs.{same_first}
use Rattle.wf_server.proofs.Stretches.{stretch_none, stretch_as}
use Rattle.wf_server.proofs.Rooms.{head_room_same}
use Rattle.wf_server.proofs.Starts.{unrecovered_failed}
use Rattle.wf_server.proofs.Opened.{stands_open, placed_open, node_open}
use Rattle.wf_server.proofs.node.Node.of_journal.Goals as goal

memory_not_failed : ◌≡◌ {A = NodeFault} faults.NoMemory faults.DiskFailed → ⊥
memory_not_failed e = cc e

pub returns-in_default-clause-stretch_refused : goal.returns-in_default-clause-stretch_refused
returns-in_default-clause-stretch_refused g c =
    let P : g.row.D.Denot → Type 0 = λ d. Stretch c.args.part (g.D.Disk.told c.args.journal.disk) (g.D.Disk.told d) (most_head (g.D.Disk.told c.args.journal.disk).image) (◌≡◌ {A = NodeFault} faults.NoMemory faults.DiskFailed) in
    subst P (sym c.close.ensures) (stretch_none c.args.part (g.D.Disk.told c.args.journal.disk) (most_head (g.D.Disk.told c.args.journal.disk).image) (◌≡◌ {A = NodeFault} faults.NoMemory faults.DiskFailed) (g.met.D.Disk.lawful c.args.journal.disk) memory_not_failed)

pub invariant_of-result : goal.invariant_of-result
invariant_of-result g c =
    node_open g.D.Disk.told c.read_unit.new.journal c.in-Ok-read_unit.replica c.in-Ok.came.items c.in-Ok.early.items c.args.part c.in-Ok-read_unit.ensures.part
    (c.in-Ok.ensures.sizes.0 ∙ ap (λ (p : PartData). p.units) c.data.ensures.same) (c.in-Ok.ensures.sizes.1 ∙ ap (λ (p : PartData). p.units) c.data.ensures.same) c.in-Ok.ensures.none
    (stands_open c.args.part c.in-Ok-read_unit.replica.past (g.D.Disk.told c.args.journal.disk) (g.D.Disk.told c.read_unit.new.journal.disk) c.in-Ok-read_unit.ensures.stretch.runs.tells c.in-Ok-read_unit.ensures.stretch.keeps c.in-Ok-read_unit.ensures.history c.in-Ok-read_unit.ensures.begun c.read_unit.new.journal.failed)
    (placed_open g.D.Disk.told c.read_unit.new.journal c.args.part c.in-Ok-read_unit.replica c.in-Ok-read_unit.ensures.part c.in-Ok-read_unit.ensures.healthy c.disk-ready.ensures.ready c.in-Ok-read_unit.ensures.begun c.in-Ok-read_unit.ensures.end)

pub returns-in-Err-clause-stretch_refused : goal.returns-in-Err-clause-stretch_refused
returns-in-Err-clause-stretch_refused g c =
    let is : c.from.result ≡ unrecovered_by c.in-Err.refused.fault = search (rules, c.from.ensures) in
    let P : g.row.D.Denot → Type 0 = λ d. Stretch c.args.part (g.D.Disk.told c.args.journal.disk) (g.D.Disk.told d) (most_head (g.D.Disk.told c.args.journal.disk).image) (c.from.result ≡ faults.DiskFailed) in
    subst P (sym c.close-in-Err.ensures)
    (stretch_as c.args.part (g.D.Disk.told c.args.journal.disk) (g.D.Disk.told c.read_unit.new.journal.disk) (most_head (g.D.Disk.told c.args.journal.disk).image) (c.in-Err.refused.fault ≡ recovery.DiskFailed) (c.from.result ≡ faults.DiskFailed)
    (λ e. is ∙ ap unrecovered_by e) (λ e. unrecovered_failed c.in-Err.refused.fault (sym is ∙ e)) c.in-Err.ensures.stretch_refused)

pub returns-in_default-clause-room_refused : goal.returns-in_default-clause-room_refused
returns-in_default-clause-room_refused g c =
    let P : g.row.D.Denot → Type 0 = λ d. HeadRoom c.args.part (g.D.Disk.told c.args.journal.disk) (g.D.Disk.told d) in
    subst P (sym c.close.ensures) (head_room_same c.args.part (g.D.Disk.told c.args.journal.disk) (g.D.Disk.told c.args.journal.disk) (g.met.D.Disk.lawful c.args.journal.disk) (same_first (g.D.Disk.told c.args.journal.disk)))

pub returns-in-Err-clause-room_refused : goal.returns-in-Err-clause-room_refused
returns-in-Err-clause-room_refused g c =
    let P : g.row.D.Denot → Type 0 = λ d. HeadRoom c.args.part (g.D.Disk.told c.args.journal.disk) (g.D.Disk.told d) in
    subst P (sym c.close-in-Err.ensures) c.read_unit.ensures.room
