use Rattle.std.proofs.Common.{◌≡◌, flat_map, take}
use Rattle.wf_world.specs.States.{state_of}
use Rattle.wf_top.specs.Places.{entries_of}
use Rattle.wf_top.proofs.summary.step_entries.Given as goal

abbrev pub invariant-loop-place : goal.invariant-loop-place
invariant-loop-place l = l.entries ≡ flat_map (entries_of (state_of l.world).machine) (take l.place-index l.step)
