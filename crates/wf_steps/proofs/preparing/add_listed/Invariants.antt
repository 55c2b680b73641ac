use Rattle.std.proofs.Common.{◌≡◌, ◌++◌, take}
use Rattle.wf_activities.specs.UnitItems.{listed}
use Rattle.wf_steps.proofs.preparing.add_listed.Given as goal

abbrev pub invariant-loop-start : goal.invariant-loop-start
invariant-loop-start l = l.own ≡ l.initial.own ++ listed l.acts (take l.start-index l.starts)
