use Rattle.wf_flat.proofs.Locking.{Stands}
use Rattle.wf_flat.proofs.lock.lockstep.Given as goal

abbrev pub invariant-loop-taken : goal.invariant-loop-taken
invariant-loop-taken l = Stands l.parts l.outer l.taken l.views.items l.steps
