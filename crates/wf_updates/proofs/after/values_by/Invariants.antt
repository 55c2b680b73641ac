use Rattle.std.proofs.Common.{◌≡◌, take}
use Rattle.wf_updates.specs.After.{values_by}
use Rattle.wf_updates.proofs.after.values_by.Given as goal

abbrev pub invariant-loop-it : goal.invariant-loop-it
invariant-loop-it l = l.values ≡ values_by (take l.it-index l.vars) l.last l.best
