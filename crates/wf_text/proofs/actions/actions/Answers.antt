use Rattle.std.proofs.Common.{rules, arith}
use Rattle.std.proofs.lemmas.Grind.{common_steps}
use Rattle.wf_text.specs.Transitions.{actions, actions_from}
use Rattle.wf_phrase.proofs.Turns.{one_more, no_more}
use Rattle.wf_text.proofs.actions.actions.Goals as goal

pub returns-then-not-eat : goal.returns-then-not-eat
unfolding actions_from
returns-then-not-eat c =
    let e = one_more (λ n. actions_from n c.loop-turn.found c.loop-turn.cursor) _ c.loop-turn._turn c.loop-turn-test.true c.loop-turn.invariant in
    first_of (search rules, grind (arith, common_steps))

pub returns-in_err-next : goal.returns-in_err-next
unfolding actions_from
returns-in_err-next c =
    let e = one_more (λ n. actions_from n c.loop-turn.found c.loop-turn.cursor) _ c.loop-turn._turn c.loop-turn-test.true c.loop-turn.invariant in
    first_of (search rules, grind (arith, common_steps))

pub loop-turn-preserved : goal.loop-turn-preserved
unfolding actions_from
loop-turn-preserved c =
    let e = one_more (λ n. actions_from n c.loop-turn.found c.loop-turn.cursor) _ c.loop-turn._turn c.loop-turn-test.true c.loop-turn.invariant in
    first_of (search rules, grind (arith, common_steps))

pub returns : goal.returns
unfolding actions_from
returns c =
    let e = no_more (λ n. actions_from n c.loop-turn.found c.loop-turn.cursor) _ c.loop-turn._turn c.loop-turn-test.false c.loop-turn.invariant in
    first_of (search rules, grind (arith, common_steps))
