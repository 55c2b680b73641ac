use Rattle.std.proofs.Common.{◌≡◌, map, take}
use Rattle.wf_parts.specs.Known.{knows_var}
use Rattle.wf_parts.specs.Parts.{numbered, known_variable}
use Rattle.wf_partition.proofs.lists.vars_of.Given as goal

abbrev pub invariant-loop-x : goal.invariant-loop-x
invariant-loop-x l = l.vars ≡ map known_variable (numbered (knows_var l.chart l.fn.unit.0) (take l.x l.chart.vars))
