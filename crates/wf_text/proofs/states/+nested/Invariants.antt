use Rattle.std.proofs.Common.{◌≡◌, ◌-◌, ◌+◌, ◌*◌, Some}
use Rattle.wf_text.specs.States.{state, children, children_from}
use Rattle.wf_text.proofs.states.+nested.Given as goal

abbrev pub decreases-state : goal.decreases-state
decreases-state l = 3 * l.depth + 1

abbrev pub decreases-block : goal.decreases-block
decreases-block l = 3 * l.depth

abbrev pub decreases-children : goal.decreases-children
decreases-children l = 3 * l.depth + 2

abbrev pub invariant-children-loop-turn : goal.invariant-children-loop-turn
invariant-children-loop-turn l = children (state l.fn.depth (Some l.fn.parent)) l.fn.cursor ≡ children_from (state l.depth (Some l.parent)) (l._turn-end - l._turn) l.cursor
