use Rattle.std.proofs.Common.{◌≡◌, ◌++◌, drop}
use Rattle.wf_words.specs.Transitions.{trans_list}
use Rattle.wf_words.proofs.transitions.add_transitions.Given as goal

abbrev pub invariant-loop-t : goal.invariant-loop-t
invariant-loop-t l = l.text ++ trans_list (drop l.t-index l.transitions) ≡ l.fn.text ++ trans_list l.transitions
