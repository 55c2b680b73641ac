use Rattle.std.proofs.Common.{◌≡◌, ◌+◌, ◌-◌, ◌++◌, drop, flat_map}
use Rattle.wf_model.specs.Limits.{max_depth}
use Rattle.wf_print.specs.States.{state_text}
use Rattle.wf_print.proofs.states.+append_state.Given as goal

abbrev pub decreases-append_state : goal.decreases-append_state
decreases-append_state l = max_depth - l.depth

abbrev pub invariant-loop-child : goal.invariant-loop-child
invariant-loop-child l =
    l.text ++ flat_map (state_text l.chart (max_depth - (l.depth + 1)) (l.depth + 1)) (drop l.child-index l.inside)
    ≡ l.initial.text ++ flat_map (state_text l.chart (max_depth - (l.depth + 1)) (l.depth + 1)) l.inside
