use Rattle.std.proofs.Common.{◌≡◌, map, take}
use Rattle.std.specs.List.{range_with_len}
use Rattle.wf_updates.specs.Tables.{given_by}
use Rattle.wf_updates.proofs.tables.firsts_below.Given as goal

abbrev pub invariant-loop-pair : goal.invariant-loop-pair
invariant-loop-pair g l = l.firsts.items ≡ map (given_by (take l.pair-index l.pairs)) (range_with_len 0 l.count)
