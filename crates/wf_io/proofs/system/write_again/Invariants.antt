use Rattle.std.specs.Io.KnownBytes.{Keeps}
use Rattle.wf_io.proofs.system.write_again.Given as goal

abbrev pub invariant-writes : goal.invariant-writes
invariant-writes g l = Keeps (g.W.Write.contents l.fn.writer) (g.W.Write.contents l.writer)
