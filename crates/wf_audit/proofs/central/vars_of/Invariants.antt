use Rattle.std.proofs.Common.{◌≡◌, take}
use Rattle.wf_central.specs.Kept.{central_of}
use Rattle.wf_audit.proofs.Variables.{outputs_from}
use Rattle.wf_audit.proofs.central.vars_of.Given as goal

abbrev pub invariant-loop-x : goal.invariant-loop-x
invariant-loop-x l = l.vars ≡ outputs_from 0 (take l.x (central_of l.checked l.central).store)
