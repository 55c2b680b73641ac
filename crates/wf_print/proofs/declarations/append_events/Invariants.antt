use Rattle.std.proofs.Common.{◌≡◌, ◌++◌, drop, flat_map}
use Rattle.wf_print.specs.Declarations.{event_line}
use Rattle.wf_print.proofs.declarations.append_events.Given as goal

abbrev pub invariant-loop-event : goal.invariant-loop-event
invariant-loop-event l = l.text ++ flat_map (event_line l.chart) (drop l.event-index l.events) ≡ l.fn.text ++ flat_map (event_line l.chart) l.events
