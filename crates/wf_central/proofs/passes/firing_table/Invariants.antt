use Rattle.std.proofs.Common.{◌≡◌, map}
use Rattle.std.specs.List.{range_with_len}
use Rattle.wf_central.specs.Passes.{firing_by}
use Rattle.wf_central.proofs.passes.firing_table.Given as goal

abbrev pub invariant-loop-s : goal.invariant-loop-s
invariant-loop-s l = l.table ≡ map (firing_by l.chart l.chosen) (range_with_len 0 l.s)
