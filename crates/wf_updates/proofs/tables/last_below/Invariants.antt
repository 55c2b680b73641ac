use Rattle.std.proofs.Common.{◌≡◌, map, take}
use Rattle.std.specs.List.{range_with_len}
use Rattle.wf_updates.specs.Tables.{last_of}
use Rattle.wf_updates.proofs.tables.last_below.Given as goal

abbrev pub invariant-loop-output : goal.invariant-loop-output
invariant-loop-output l = l.last.items ≡ map (last_of (take l.output-index l.outputs)) (range_with_len 0 l.count)
