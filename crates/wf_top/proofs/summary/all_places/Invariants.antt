use Rattle.std.proofs.Common.{◌≡◌, flat_map, take}
use Rattle.wf_top.proofs.summary.all_places.Given as goal

abbrev pub invariant-loop-step : goal.invariant-loop-step
invariant-loop-step l = l.all ≡ flat_map (λ places. places) (take l.step-index l.merged)
