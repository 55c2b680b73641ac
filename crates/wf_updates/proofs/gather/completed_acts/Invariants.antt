use Rattle.std.proofs.Common.{◌≡◌, map, take}
use Rattle.wf_views.specs.Views.{completions_in}
use Rattle.wf_updates.proofs.gather.completed_acts.Given as goal

abbrev pub invariant-loop-entry : goal.invariant-loop-entry
invariant-loop-entry l = l.acts.items ≡ map (λ c. c.act.0) (completions_in (take l.entry-index l.entries))
