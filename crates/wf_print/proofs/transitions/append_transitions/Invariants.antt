use Rattle.std.proofs.Common.{◌≡◌, ◌++◌, drop, flat_map}
use Rattle.wf_print.specs.Transitions.{transition_line}
use Rattle.wf_print.proofs.transitions.append_transitions.Given as goal

abbrev pub invariant-loop-transition : goal.invariant-loop-transition
invariant-loop-transition l = l.text ++ flat_map (transition_line l.chart) (drop l.transition-index l.transitions) ≡ l.fn.text ++ flat_map (transition_line l.chart) l.transitions
