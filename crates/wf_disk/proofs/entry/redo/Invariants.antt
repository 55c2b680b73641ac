use Rattle.std.proofs.Common.{vec_capacity}
use Rattle.wf_disk.proofs.Replays.{Redoes}
use Rattle.wf_disk.proofs.entry.redo.Given as goal

abbrev pub invariant-loop-entry : goal.invariant-loop-entry
invariant-loop-entry l = Redoes l.fn.image.items l.image.items l.written l.left l.entries l.entry-index (vec_capacity l.fn.image) (vec_capacity l.image)
