use Rattle.wf_server.proofs.Lending.{letter_stays}
use Rattle.wf_server.proofs.node.Node.letter.Goals as goal

pub returns-in_err-update-clause-stable : goal.returns-in_err-update-clause-stable
returns-in_err-update-clause-stable g c = letter_stays g.D.Disk.told _ _ c.self.view_is c.self.invariant.stands c.args.peer.0 c.args.step c.history-made.ensures.made c.requires.kept

pub returns-clause-stable : goal.returns-clause-stable
returns-clause-stable g c = letter_stays g.D.Disk.told _ _ c.self.view_is c.self.invariant.stands c.args.peer.0 c.args.step c.history-made.ensures.made c.requires.kept
