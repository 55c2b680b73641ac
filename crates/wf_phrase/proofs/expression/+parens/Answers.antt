use Rattle.std.proofs.Common.{rules, arith, ◌≡◌}
use Rattle.std.proofs.lemmas.Grind.{common_steps}
use Rattle.wf_phrase.specs.Expressions.{parens}
use Rattle.wf_phrase.proofs.Turns.{deeper}
use Rattle.wf_phrase.proofs.expression.+parens.Goals as goal

pub returns-then-depth-eq0 : goal.returns-then-depth-eq0
unfolding parens
returns-then-depth-eq0 t c = let none : c.args.depth ≡ 0 = omega arith in rw none (search rules)

pub returns-in_err-inner : goal.returns-in_err-inner
unfolding parens
returns-in_err-inner t c = rw (deeper (λ n. parens n c.args.cursor.now) c.args.depth (omega arith)) (first_of (search rules, grind (arith, common_steps)))

pub returns-in_err-expect : goal.returns-in_err-expect
unfolding parens
returns-in_err-expect t c = rw (deeper (λ n. parens n c.args.cursor.now) c.args.depth (omega arith)) (first_of (search rules, grind (arith, common_steps)))

pub returns : goal.returns
unfolding parens
returns t c = rw (deeper (λ n. parens n c.args.cursor.now) c.args.depth (omega arith)) (first_of (search rules, grind (arith, common_steps)))
