use Rattle.std.proofs.Common.{◌≡◌, ◌-◌}
use Rattle.wf_text.specs.Transitions.{transitions, transitions_from}
use Rattle.wf_text.proofs.transitions.transitions.Given as goal

abbrev pub invariant-loop-turn : goal.invariant-loop-turn
invariant-loop-turn l = transitions l.fn.cursor ≡ transitions_from (l._turn-end - l._turn) l.found l.cursor
