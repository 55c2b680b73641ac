use Rattle.std.proofs.Common.{◌≡◌, map, take}
use Rattle.wf_parts.specs.Known.{knows_event}
use Rattle.wf_parts.specs.Parts.{numbered, known_event}
use Rattle.wf_partition.proofs.lists.events_of.Given as goal

abbrev pub invariant-loop-n : goal.invariant-loop-n
invariant-loop-n l = l.events ≡ map known_event (numbered (knows_event l.chart l.fn.unit.0) (take l.n l.chart.events))
