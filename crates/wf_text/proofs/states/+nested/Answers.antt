use Rattle.std.proofs.Common.{rules, arith, ◌≡◌, Some}
use Rattle.std.proofs.lemmas.Grind.{common_steps}
use Rattle.wf_text.specs.States.{state, block, children, children_from}
use Rattle.wf_phrase.proofs.Turns.{one_more, no_more, deeper}
use Rattle.wf_text.proofs.states.+nested.Goals as goal

pub children-loop-turn-init : goal.children-loop-turn-init
unfolding children
children-loop-turn-init t c = search rules

pub children-returns-then-eat : goal.children-returns-then-eat
unfolding children_from
children-returns-then-eat t c =
    let e = one_more (λ n. children_from (state c.args.depth (Some c.args.parent)) n c.loop-turn.cursor) _ c.loop-turn._turn c.loop-turn-test.true c.loop-turn.invariant in
    first_of (search rules, grind (arith, common_steps))

pub children-returns-in_err-state : goal.children-returns-in_err-state
unfolding children_from
children-returns-in_err-state t c =
    let e = one_more (λ n. children_from (state c.args.depth (Some c.args.parent)) n c.loop-turn.cursor) _ c.loop-turn._turn c.loop-turn-test.true c.loop-turn.invariant in
    first_of (search rules, grind (arith, common_steps))

pub children-loop-turn-preserved : goal.children-loop-turn-preserved
unfolding children_from
children-loop-turn-preserved t c =
    let e = one_more (λ n. children_from (state c.args.depth (Some c.args.parent)) n c.loop-turn.cursor) _ c.loop-turn._turn c.loop-turn-test.true c.loop-turn.invariant in
    first_of (search rules, grind (arith, common_steps))

pub children-returns : goal.children-returns
unfolding children_from
children-returns t c =
    let e = no_more (λ n. children_from (state c.args.depth (Some c.args.parent)) n c.loop-turn.cursor) _ c.loop-turn._turn c.loop-turn-test.false c.loop-turn.invariant in
    first_of (search rules, grind (arith, common_steps))

pub block-returns-then-depth-eq0 : goal.block-returns-then-depth-eq0
unfolding block
block-returns-then-depth-eq0 t c = let none : c.args.depth ≡ 0 = omega arith in rw none (search rules)

pub block-returns : goal.block-returns
unfolding block
block-returns t c = rw (deeper (λ n. block n c.args.parent c.args.cursor.now) c.args.depth (omega arith)) (first_of (search rules, grind (arith, common_steps)))
