use Rattle.std.proofs.Common.{◌≡◌, map, take}
use Rattle.wf_parts.specs.Known.{knows_state}
use Rattle.wf_parts.specs.Parts.{numbered, known_state}
use Rattle.wf_partition.proofs.lists.states_of.Given as goal

abbrev pub invariant-loop-s : goal.invariant-loop-s
invariant-loop-s l = l.states ≡ map (known_state l.chart) (numbered (knows_state l.chart l.fn.unit.0) (take l.s l.chart.states))
