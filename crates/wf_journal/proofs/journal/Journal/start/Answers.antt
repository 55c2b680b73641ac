use Rattle.std.proofs.Common.{[]}
use Rattle.wf_journal.proofs.Starts.{left_begins}
use Rattle.wf_journal.proofs.journal.Journal.start.Goals as goal

pub returns-in-Ok-clause-begins : goal.returns-in-Ok-clause-begins
returns-in-Ok-clause-begins g c = left_begins (g.D.Disk.told c.args.disk) (g.D.Disk.told c.find_end.new.disk) c.in-Ok.place [] c.in-Ok.ensures.left c.find_end.ensures.kept.tells
