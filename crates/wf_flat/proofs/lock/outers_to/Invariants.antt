use Rattle.std.proofs.Common.{◌≡◌, take}
use Rattle.wf_lockstep.specs.Shares.{outers_to}
use Rattle.wf_flat.proofs.lock.outers_to.Given as goal

abbrev pub invariant-loop-entry : goal.invariant-loop-entry
invariant-loop-entry l = l.outers ≡ outers_to l.unit (take l.entry-index l.entries)
