use Rattle.std.proofs.Common.{◌≡◌, map, flat_map, take}
use Rattle.wf_world.specs.States.{state_of}
use Rattle.wf_top.specs.Places.{entries_of}
use Rattle.wf_top.proofs.summary.all_entries.Given as goal

abbrev pub invariant-loop-step : goal.invariant-loop-step
invariant-loop-step l = l.steps ≡ map (flat_map (entries_of (state_of l.world).machine)) (take l.step-index l.merged)
