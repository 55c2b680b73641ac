use Rattle.wf_server.proofs.Lending.{disk_holds, disk_stays, disk_place}
use Rattle.wf_server.proofs.node.Node.disk.Goals as goal

pub returns-clause-stands : goal.returns-clause-stands
returns-clause-stands g c = disk_holds g.D.Disk.told _ _ c.self.view_is c.self.invariant.stands

pub returns-clause-stays : goal.returns-clause-stays
returns-clause-stays g c = disk_stays g.D.Disk.told _ _ c.self.view_is c.self.invariant.stands

pub returns-clause-place : goal.returns-clause-place
returns-clause-place g c = disk_place g.D.Disk.told _ _ c.self.view_is c.self.invariant.stands c.self.invariant.placed
