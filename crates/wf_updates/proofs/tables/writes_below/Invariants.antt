use Rattle.std.proofs.Common.{◌≡◌, map, take}
use Rattle.std.specs.List.{range_with_len}
use Rattle.wf_actions.specs.Writes.{winner}
use Rattle.wf_updates.proofs.tables.writes_below.Given as goal

abbrev pub invariant-loop-write : goal.invariant-loop-write
invariant-loop-write l = l.best.items ≡ map (λ x. winner x (take l.write-index l.writes)) (range_with_len 0 l.count)
