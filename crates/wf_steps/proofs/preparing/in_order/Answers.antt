use Rattle.std.proofs.Common.{◌≡◌, ℕ, ◌==◌, ◌++◌, ◌∙◌, List, ap, filter, arith}
use Rattle.std.specs.List.{flat_map, range_with_len}
use Rattle.wf_model.specs.declared.update.StartAt.{StartAt}
use Rattle.wf_steps.specs.Items.{in_order}
use Rattle.wf_steps.proofs.Fits.{by_more}
use Rattle.wf_steps.proofs.preparing.in_order.Goals as goal

pub loop-trans-preserved : goal.loop-trans-preserved
loop-trans-preserved c =
    c.in_ok-add_by.ensures
    ∙ ap (λ (l : List StartAt). l ++ filter (λ s. s.trans.0 == c.loop-trans.trans) c.args.starts.now) c.loop-trans.invariant
    ∙ by_more (λ t. filter (λ (s : StartAt). s.trans.0 == t) c.args.starts.now) c.loop-trans.trans

pub returns : goal.returns
unfolding in_order
returns c =
    c.loop-trans.invariant
    ∙ ap (λ (n : ℕ). flat_map (λ t. filter (λ (s : StartAt). s.trans.0 == t) c.args.starts.now) (range_with_len 0 n)) (let e : c.loop-trans.trans ≡ 1024 = omega (arith, c.loop-trans-test.false, c.loop-trans.auto.trans-end) in e)
