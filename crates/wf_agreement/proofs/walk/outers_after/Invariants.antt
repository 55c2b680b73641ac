use Rattle.std.proofs.Common.{◌≡◌, take}
use Rattle.wf_worlds.specs.Admitting.{outers}
use Rattle.wf_agreement.proofs.walk.outers_after.Given as goal

abbrev pub invariant-loop-admission : goal.invariant-loop-admission
invariant-loop-admission l = l.found ≡ outers (take l.admission-index l.sealed)
