use Rattle.std.proofs.Common.{rules, arith}
use Rattle.std.proofs.lemmas.Grind.{common_steps}
use Rattle.wf_text.specs.Transitions.{transitions, transitions_from}
use Rattle.wf_phrase.proofs.Turns.{one_more, no_more}
use Rattle.wf_text.proofs.transitions.transitions.Goals as goal

pub loop-turn-init : goal.loop-turn-init
unfolding transitions
loop-turn-init c = search rules

pub returns-then-not-sees : goal.returns-then-not-sees
unfolding transitions_from
returns-then-not-sees c =
    let e = one_more (λ n. transitions_from n c.loop-turn.found c.loop-turn.cursor) _ c.loop-turn._turn c.loop-turn-test.true c.loop-turn.invariant in
    first_of (search rules, grind (arith, common_steps))

pub returns-in_err-next : goal.returns-in_err-next
unfolding transitions_from
returns-in_err-next c =
    let e = one_more (λ n. transitions_from n c.loop-turn.found c.loop-turn.cursor) _ c.loop-turn._turn c.loop-turn-test.true c.loop-turn.invariant in
    first_of (search rules, grind (arith, common_steps))

pub loop-turn-preserved : goal.loop-turn-preserved
unfolding transitions_from
loop-turn-preserved c =
    let e = one_more (λ n. transitions_from n c.loop-turn.found c.loop-turn.cursor) _ c.loop-turn._turn c.loop-turn-test.true c.loop-turn.invariant in
    first_of (search rules, grind (arith, common_steps))

pub returns : goal.returns
unfolding transitions_from
returns c =
    let e = no_more (λ n. transitions_from n c.loop-turn.found c.loop-turn.cursor) _ c.loop-turn._turn c.loop-turn-test.false c.loop-turn.invariant in
    first_of (search rules, grind (arith, common_steps))
