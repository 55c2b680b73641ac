use Rattle.std.proofs.Common.{◌≡◌}
use Rattle.wf_files.proofs.whole.write_again.Given as goal

abbrev pub invariant-writes : goal.invariant-writes
invariant-writes g l = g.F.ByteFile.held l.file ≡ g.F.ByteFile.held l.fn.file
