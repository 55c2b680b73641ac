use Rattle.std.proofs.Common.{◌≡◌, drop}
use Rattle.wf_activities.specs.Completing.{are_wanted}
use Rattle.wf_activities.proofs.outputs.are_wanted.Given as goal

abbrev pub invariant-loop-i : goal.invariant-loop-i
invariant-loop-i l = are_wanted l.wanted l.outputs ≡ are_wanted (drop l.i l.wanted) (drop l.i l.outputs)
