use Rattle.std.proofs.Common.{◌≡◌, map, take}
use Rattle.wf_parts.specs.Parts.{sorted_output}
use Rattle.wf_partition.proofs.lists.sorted_outputs.Given as goal

abbrev pub invariant-loop-x : goal.invariant-loop-x
invariant-loop-x l = l.sorted ≡ map (sorted_output l.chart) (take l.x-index l.outputs)
