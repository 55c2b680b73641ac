use Rattle.std.proofs.Common.{rules, arith, ◌≡◌, ◌-◌, suc, length}
use Rattle.std.proofs.lemmas.Grind.{common_steps}
use Rattle.wf_phrase.specs.Expressions.{parens}
use Rattle.wf_phrase.proofs.Prefixes.{unary_stops, unary_goes_on}
use Rattle.wf_phrase.proofs.rules.Rules.+unary.Goals as goal

pub returns-then-not-sees : goal.returns-then-not-sees
returns-then-not-sees g t c =
    rw (unary_stops c.args.self.now.depth (parens c.args.self.now.depth) (length c.args.cursor.now.left) c.args.cursor.now c.sees.result c.sees.ensures.value c.if-not-sees.true) c.atom.ensures

pub returns-in_err-node : goal.returns-in_err-node
returns-in_err-node g t c =
    let some : length c.args.cursor.now.left ≡ suc (length c.args.cursor.now.left - 1) = omega (arith, c.sees.ensures.some c.if-not-sees.false) in
    rw (unary_goes_on c.args.self.now.depth (parens c.args.self.now.depth) (length c.args.cursor.now.left) (length c.args.cursor.now.left - 1) c.args.cursor.now c.sees.result c.sees.ensures.value c.if-not-sees.false some)
    (first_of (search rules, grind (arith, common_steps)))
