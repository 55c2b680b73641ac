use Rattle.wf_server.proofs.Admitting.{crash_idle, room_idle}
use Rattle.wf_server.proofs.node.Node.admit.Goals as goal

pub returns-in_err-number-clause-crash : goal.returns-in_err-number-clause-crash
returns-in_err-number-clause-crash g c = crash_idle g.D.Disk.told g.met.D.Disk.lawful _ _ c.self.view_is c.args.request c.args.outer.now c.self.invariant.stands

pub returns-in-Some-clause-crash : goal.returns-in-Some-clause-crash
returns-in-Some-clause-crash g c = crash_idle g.D.Disk.told g.met.D.Disk.lawful _ _ c.self.view_is c.args.request c.args.outer.now c.self.invariant.stands

pub returns-in_err-number-clause-disk_room : goal.returns-in_err-number-clause-disk_room
returns-in_err-number-clause-disk_room g c = room_idle g.D.Disk.told g.met.D.Disk.lawful _ _ c.self.view_is c.args.request c.args.outer.now c.self.invariant.stands _ _

pub returns-in-Some-clause-disk_room : goal.returns-in-Some-clause-disk_room
returns-in-Some-clause-disk_room g c = room_idle g.D.Disk.told g.met.D.Disk.lawful _ _ c.self.view_is c.args.request c.args.outer.now c.self.invariant.stands _ _
