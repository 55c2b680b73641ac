use Rattle.std.proofs.Common.{◌≡◌, ◌+◌, length, sym, ap, ◌∙◌, subst}
use Rattle.wf_journal.specs.Room.{UsesRoom}
use Rattle.wf_codec.specs.Records.{record_spelling}
use Rattle.wf_server.specs.Servers.{Server, turn_record, with_turn}
use Rattle.wf_server.specs.Images.{CrashLeaves}
use Rattle.wf_server.proofs.Runs.{room_none}
use Rattle.wf_server.proofs.Turning.{crash_idle}
use Rattle.wf_server.proofs.node.Node.turn.Goals as goal

pub returns-in_err-may_turn-clause-crash : goal.returns-in_err-may_turn-clause-crash
returns-in_err-may_turn-clause-crash g c = crash_idle g.D.Disk.told g.met.D.Disk.lawful _ _ c.self.view_is c.self.invariant.stands

pub returns-in_err-reserve_turn-clause-crash : goal.returns-in_err-reserve_turn-clause-crash
returns-in_err-reserve_turn-clause-crash g c =
    let b = c.args.self.now in
    subst (λ d. CrashLeaves (g.D.Disk.told b.journal.disk) (g.D.Disk.told d) b.journal.failed b.part b.past (with_turn b.past b.came)) (sym (ap (λ (s : Server g.row.D.Denot). s.journal.disk) c.reserve_turn.ensures.kept))
    (crash_idle g.D.Disk.told g.met.D.Disk.lawful _ _ c.self.view_is c.self.invariant.stands)

pub returns-clause-refused : goal.returns-clause-refused
returns-clause-refused g c = λ is_err memory disk.
    let same = c.add_turn.ensures.refused is_err memory disk in
    let b = c.args.self.now in
    same ∙ c.reserve_turn.ensures.kept ∙ ap (λ (s : Server g.row.D.Denot). record b { journal = record b.journal { room = s.journal.room }; ready = s.ready }) (sym same)

pub returns-in_err-may_turn-clause-disk_room : goal.returns-in_err-may_turn-clause-disk_room
returns-in_err-may_turn-clause-disk_room g c = room_none (g.D.Disk.told c.args.self.now.journal.disk) (g.met.D.Disk.lawful c.args.self.now.journal.disk) _ _

pub returns-in_err-reserve_turn-clause-disk_room : goal.returns-in_err-reserve_turn-clause-disk_room
returns-in_err-reserve_turn-clause-disk_room g c =
    let b = c.args.self.now in
    let P : g.row.D.Denot → Type 0 = λ d. UsesRoom (g.D.Disk.told b.journal.disk) (g.D.Disk.told d) 2 (length (record_spelling (turn_record b.past b.came)) + 6) in
    subst P (sym (ap (λ (s : Server g.row.D.Denot). s.journal.disk) c.reserve_turn.ensures.kept)) (room_none (g.D.Disk.told b.journal.disk) (g.met.D.Disk.lawful b.journal.disk) _ _)
