use Rattle.std.proofs.Common.{◌≡◌, ◌||◌, map, take}
use Rattle.std.specs.List.{list_any}
use Rattle.wf_model.specs.Tree.{all_events}
use Rattle.wf_semantics.specs.Run.{is_happening}
use Rattle.wf_central.specs.Sight.{was_raised}
use Rattle.wf_central.proofs.passes.events_there.Given as goal

abbrev pub invariant-loop-entry : goal.invariant-loop-entry
invariant-loop-entry l =
    l.bits ≡ map (λ e. was_raised l.raised e || list_any (λ x. is_happening e x.outer) (take l.entry-index l.entries)) (all_events l.chart)
