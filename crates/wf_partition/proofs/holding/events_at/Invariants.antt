use Rattle.std.proofs.Common.{◌≡◌, map}
use Rattle.std.specs.List.{range_with_len}
use Rattle.wf_semantics.specs.Admission.{is_event_at}
use Rattle.wf_partition.proofs.holding.events_at.Given as goal

abbrev pub invariant-loop-event : goal.invariant-loop-event
invariant-loop-event l = l.bits ≡ map (is_event_at l.chart l.unit.0) (range_with_len 0 l.event-index)
