use Rattle.std.proofs.Common.{◌≡◌, take}
use Rattle.wf_activities.specs.UnitItems.{listed}
use Rattle.wf_views.specs.Absorbing.{starts_in}
use Rattle.wf_steps.proofs.preparing.listed_in.Given as goal

abbrev pub invariant-loop-update : goal.invariant-loop-update
invariant-loop-update l = l.own ≡ listed l.acts (starts_in (take l.update-index l.all))
