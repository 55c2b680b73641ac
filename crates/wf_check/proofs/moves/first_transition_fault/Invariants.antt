use Rattle.std.proofs.Common.{◌≡◌, drop}
use Rattle.wf_check.specs.Firsts.{first_from}
use Rattle.wf_check.specs.Sorted.{transition_fault}
use Rattle.wf_check.proofs.moves.first_transition_fault.Given as goal

abbrev pub invariant-loop-t : goal.invariant-loop-t
invariant-loop-t l = first_from (transition_fault l.chart) 0 l.transitions ≡ first_from (transition_fault l.chart) l.t (drop l.t l.transitions)
