use Rattle.std.proofs.Common.{◌≡◌, map, take}
use Rattle.wf_parts.specs.Known.{knows_act}
use Rattle.wf_parts.specs.Parts.{numbered, known_activity}
use Rattle.wf_partition.proofs.lists.acts_of.Given as goal

abbrev pub invariant-loop-a : goal.invariant-loop-a
invariant-loop-a l = l.acts ≡ map (known_activity l.chart l.unit.0) (numbered (knows_act l.chart l.unit.0) (take l.a l.chart.acts))
