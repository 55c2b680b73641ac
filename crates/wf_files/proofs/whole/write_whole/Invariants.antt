use Rattle.std.proofs.Common.{◌≤◌, ◌-◌, length, take}
use Rattle.wf_files.specs.Bytes.{IsPut}
use Rattle.wf_files.proofs.whole.write_whole.Given as goal

abbrev pub invariant-pieces : goal.invariant-pieces
invariant-pieces g l =
    (l.done ≤ length l.bytes) × IsPut (g.F.ByteFile.held l.fn.file) (g.F.ByteFile.held l.file) l.at (take l.done l.bytes)

abbrev pub decreases-pieces : goal.decreases-pieces
decreases-pieces g l = length l.bytes - l.done
