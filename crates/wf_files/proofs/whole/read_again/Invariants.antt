use Rattle.std.proofs.Common.{◌≡◌}
use Rattle.wf_files.proofs.whole.read_again.Given as goal

abbrev pub invariant-reads : goal.invariant-reads
invariant-reads g l = g.F.ByteFile.held l.file ≡ g.F.ByteFile.held l.fn.file
