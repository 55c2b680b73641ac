use Rattle.std.proofs.Common.{◌≡◌, ◌++◌, drop}
use Rattle.wf_slot.specs.Shown.{states_in}
use Rattle.wf_slot.proofs.sight.own_states.Given as goal

abbrev pub invariant-loop-component : goal.invariant-loop-component
invariant-loop-component l = l.states ++ states_in l.inside (drop l.component-index l.components) ≡ states_in l.inside l.components
