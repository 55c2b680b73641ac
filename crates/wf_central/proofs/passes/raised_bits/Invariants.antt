use Rattle.std.proofs.Common.{◌≡◌, map, take}
use Rattle.wf_model.specs.Tree.{all_events}
use Rattle.wf_central.specs.Sight.{was_raised}
use Rattle.wf_central.proofs.passes.raised_bits.Given as goal

abbrev pub invariant-loop-event : goal.invariant-loop-event
invariant-loop-event l = l.bits ≡ map (was_raised (take l.event-index l.raised)) (all_events l.chart)
