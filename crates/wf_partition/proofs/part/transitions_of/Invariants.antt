use Rattle.std.proofs.Common.{◌≡◌, map, take}
use Rattle.wf_parts.specs.Known.{concerns}
use Rattle.wf_parts.specs.Parts.{numbered, part_transition}
use Rattle.wf_partition.proofs.part.transitions_of.Given as goal

abbrev pub invariant-loop-t : goal.invariant-loop-t
invariant-loop-t l = l.transitions ≡ map (part_transition l.chart l.unit.0) (numbered (concerns l.chart l.unit.0) (take l.t l.chart.transitions))
