use Rattle.std.proofs.Common.{◌≡◌, ◌∙◌, ℕ, ◌+◌, ◌*◌, ◌++◌, ◌∷◌, [], List, sym, ap, ap₂, arith}
use Rattle.wf_model.specs.declared.chart.Transition.{Transition}
use Rattle.wf_gen.specs.Draws.{after}
use Rattle.wf_gen.proofs.Drawn.{after-zero, after-add, move_on}
use Rattle.wf_gen.proofs.Lists.{transitions-zero, transitions-more}
use Rattle.wf_gen.proofs.transitions.transitions.Goals as goal

pub loop-t-init : goal.loop-t-init
loop-t-init c = (c.new-made.ensures ∙ sym (transitions-zero c.args.draws.now), sym (after-zero c.args.draws.now))

pub loop-t-preserved : goal.loop-t-preserved
loop-t-preserved c =
    let four_more : 4 * c.loop-t.t + 4 ≡ 4 * (c.loop-t.t + 1) = omega arith in (
      c.in_ok-push.ensures.ok
          ∙ ap₂ (λ (l : List Transition) (x : Transition). l ++ x ∷ []) c.loop-t.invariant.0
          (c.in_ok-transition.ensures.made ∙ move_on c.args.draws.now c.loop-t.draws c.loop-t.t c.loop-t.invariant.1)
          ∙ sym (transitions-more c.args.draws.now c.loop-t.t),
      c.in_ok-transition.ensures.drawn ∙ ap (after 4) c.loop-t.invariant.1 ∙ sym (after-add (4 * c.loop-t.t) 4 c.args.draws.now)
          ∙ ap (λ (k : ℕ). after k c.args.draws.now) four_more,
    )
