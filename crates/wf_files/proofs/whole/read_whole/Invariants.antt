use Rattle.std.proofs.Common.{◌≡◌, ◌≤◌, ◌-◌, length}
use Rattle.wf_files.specs.Bytes.{IsRead}
use Rattle.wf_files.proofs.whole.read_whole.Given as goal

abbrev pub invariant-pieces : goal.invariant-pieces
invariant-pieces g l =
    (l.done ≤ length l.into)
    × IsRead (g.F.ByteFile.held l.fn.file) l.at l.done l.into
    × (g.F.ByteFile.held l.file ≡ g.F.ByteFile.held l.fn.file)

abbrev pub decreases-pieces : goal.decreases-pieces
decreases-pieces g l = length l.into - l.done
