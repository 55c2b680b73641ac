use Rattle.std.proofs.Common.{rules, arith}
use Rattle.std.proofs.lemmas.Grind.{common_steps}
use Rattle.wf_phrase.specs.Operators.{sum_operator}
use Rattle.wf_phrase.specs.Expressions.{chain_from, prod, parens}
use Rattle.wf_phrase.proofs.Turns.{one_more, no_more}
use Rattle.wf_phrase.proofs.rules.Rules.sum_rest.Goals as goal

pub returns-in_default : goal.returns-in_default
unfolding chain_from
returns-in_default g c =
    let e = one_more (λ n. chain_from sum_operator (prod c.args.self.now.depth (parens c.args.self.now.depth)) n c.loop-turn.left c.loop-turn.cursor) _ c.loop-turn._turn c.loop-turn-test.true c.loop-turn.invariant in
    first_of (search rules, grind (arith, common_steps))

pub returns-in_err-node : goal.returns-in_err-node
unfolding chain_from
returns-in_err-node g c =
    let e = one_more (λ n. chain_from sum_operator (prod c.args.self.now.depth (parens c.args.self.now.depth)) n c.loop-turn.left c.loop-turn.cursor) _ c.loop-turn._turn c.loop-turn-test.true c.loop-turn.invariant in
    first_of (search rules, grind (arith, common_steps))

pub returns-in_err-right : goal.returns-in_err-right
unfolding chain_from
returns-in_err-right g c =
    let e = one_more (λ n. chain_from sum_operator (prod c.args.self.now.depth (parens c.args.self.now.depth)) n c.loop-turn.left c.loop-turn.cursor) _ c.loop-turn._turn c.loop-turn-test.true c.loop-turn.invariant in
    first_of (search rules, grind (arith, common_steps))

pub loop-turn-preserved : goal.loop-turn-preserved
unfolding chain_from
loop-turn-preserved g c =
    let e = one_more (λ n. chain_from sum_operator (prod c.args.self.now.depth (parens c.args.self.now.depth)) n c.loop-turn.left c.loop-turn.cursor) _ c.loop-turn._turn c.loop-turn-test.true c.loop-turn.invariant in
    first_of (search rules, grind (arith, common_steps))

pub returns : goal.returns
unfolding chain_from
returns g c =
    let e = no_more (λ n. chain_from sum_operator (prod c.args.self.now.depth (parens c.args.self.now.depth)) n c.loop-turn.left c.loop-turn.cursor) _ c.loop-turn._turn c.loop-turn-test.false c.loop-turn.invariant in
    first_of (search rules, grind (arith, common_steps))
