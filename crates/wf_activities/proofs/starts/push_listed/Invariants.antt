use Rattle.std.proofs.Common.{◌≡◌, ◌++◌, ◌≤◌, take}
use Rattle.std.specs.Vec.{vec_capacity}
use Rattle.wf_activities.specs.UnitItems.{listed, at_step}
use Rattle.wf_activities.proofs.starts.push_listed.Given as goal

abbrev pub invariant-loop-start : goal.invariant-loop-start
invariant-loop-start l = record {
  made : l.started.items ≡ l.initial.started.items ++ at_step l.step (listed l.acts (take l.start-index l.starts));
  room : vec_capacity l.initial.started ≤ vec_capacity l.started;
}
