use Rattle.std.proofs.Common.{vec_capacity}
use Rattle.wf_disk.proofs.Replays.{Tears}
use Rattle.wf_disk.proofs.entry.tear.Given as goal

abbrev pub invariant-loop-entry : goal.invariant-loop-entry
invariant-loop-entry l = Tears l.fn.image.items l.image.items l.entries l.entry-index (vec_capacity l.fn.image) (vec_capacity l.image)
