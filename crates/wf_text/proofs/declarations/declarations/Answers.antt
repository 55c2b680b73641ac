use Rattle.std.proofs.Common.{rules, arith}
use Rattle.std.proofs.lemmas.Grind.{common_steps}
use Rattle.wf_text.specs.Declarations.{declarations, declarations_from}
use Rattle.wf_phrase.proofs.Turns.{one_more, no_more}
use Rattle.wf_text.proofs.declarations.declarations.Goals as goal

pub loop-turn-init : goal.loop-turn-init
unfolding declarations
loop-turn-init c = search rules

pub returns-in_err-declaration : goal.returns-in_err-declaration
unfolding declarations_from
returns-in_err-declaration c =
    let e = one_more (λ n. declarations_from n c.loop-turn.cursor) _ c.loop-turn._turn c.loop-turn-test.true c.loop-turn.invariant in
    first_of (search rules, grind (arith, common_steps))

pub returns-then-not-branch : goal.returns-then-not-branch
unfolding declarations_from
returns-then-not-branch c =
    let e = one_more (λ n. declarations_from n c.loop-turn.cursor) _ c.loop-turn._turn c.loop-turn-test.true c.loop-turn.invariant in
    first_of (search rules, grind (arith, common_steps))

pub loop-turn-preserved : goal.loop-turn-preserved
unfolding declarations_from
loop-turn-preserved c =
    let e = one_more (λ n. declarations_from n c.loop-turn.cursor) _ c.loop-turn._turn c.loop-turn-test.true c.loop-turn.invariant in
    first_of (search rules, grind (arith, common_steps))

pub returns : goal.returns
unfolding declarations_from
returns c =
    let e = no_more (λ n. declarations_from n c.loop-turn.cursor) _ c.loop-turn._turn c.loop-turn-test.false c.loop-turn.invariant in
    first_of (search rules, grind (arith, common_steps))
