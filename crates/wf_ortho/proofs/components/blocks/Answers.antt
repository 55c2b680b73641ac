use Rattle.std.proofs.Common.{◌≡◌, false, nat_eq, nat_lt, refl, sym, ◌∙◌, arith, eq-eqb}
use Rattle.std.proofs.lemmas.Bool.Decides.{nat_tests}
use Rattle.wf_ortho.proofs.Blocking.{blocks_read}
use Rattle.wf_ortho.proofs.components.blocks.Goals as goal

pub returns-then-above : goal.returns-then-above
returns-then-above c =
    let chart = c.args.chart.now in
    let upper = c.scope-upper.ensures chart c.requires.of c.requires.blocking in
    let lower = c.scope-lower.ensures chart c.requires.of c.requires.blocked in
    c.if-above.true
    ∙ blocks_read chart c.args.b.0 c.args.t.0 _ _ _ _ _ c.requires.accepted c.requires.blocked upper lower (λ lt. sym c.if-above.true ∙ c.above.ensures chart c.requires.of lt) refl refl

pub returns-then-upper-lower : goal.returns-then-upper-lower
returns-then-upper-lower c =
    let chart = c.args.chart.now in
    let upper = c.scope-upper.ensures chart c.requires.of c.requires.blocking in
    let lower = c.scope-lower.ensures chart c.requires.of c.requires.blocked in
    blocks_read chart c.args.b.0 c.args.t.0 _ _ _ _ _ c.requires.accepted c.requires.blocked upper lower (λ lt. sym c.if-above.false ∙ c.above.ensures chart c.requires.of lt)
    (sym (eq-eqb _ _ c.if-upper-lower.true)) refl

pub returns-else-upper-lower : goal.returns-else-upper-lower
returns-else-upper-lower c =
    let chart = c.args.chart.now in
    let upper = c.scope-upper.ensures chart c.requires.of c.requires.blocking in
    let lower = c.scope-lower.ensures chart c.requires.of c.requires.blocked in
    let other : nat_eq c.scope-upper.result.0 c.scope-lower.result.0 ≡ false = grind (arith, nat_tests) in
    other
    ∙ blocks_read chart c.args.b.0 c.args.t.0 _ _ _ _ (nat_lt c.args.b.0 c.args.t.0) c.requires.accepted c.requires.blocked upper lower (λ lt. sym c.if-above.false ∙ c.above.ensures chart c.requires.of lt)
    (sym other) refl
