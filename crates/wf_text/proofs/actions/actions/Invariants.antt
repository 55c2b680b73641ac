use Rattle.std.proofs.Common.{◌≡◌, ◌-◌}
use Rattle.wf_text.specs.Transitions.{actions, actions_from}
use Rattle.wf_text.proofs.actions.actions.Given as goal

abbrev pub invariant-loop-turn : goal.invariant-loop-turn
invariant-loop-turn l = actions l.fn.cursor ≡ actions_from (l._turn-end - l._turn) l.found l.cursor
