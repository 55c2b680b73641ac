use Rattle.std.proofs.Common.{◌≡◌, [], flat_map, take, get_or}
use Rattle.wf_projection.proofs.merging.step_places.Given as goal

abbrev pub invariant-loop-turns : goal.invariant-loop-turns
invariant-loop-turns l = l.places ≡ flat_map (λ turns. get_or turns l.at []) (take l.turns-index l.units)
