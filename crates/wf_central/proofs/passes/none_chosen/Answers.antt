use Rattle.std.proofs.Common.{◌≡◌, rules, length, map, None, ap, refl, ◌∙◌}
use Rattle.std.specs.List.{range_with_len}
use Rattle.wf_model.proofs.Rows.{row_more}
use Rattle.wf_central.proofs.passes.none_chosen.Goals as goal

pub loop-state-preserved : goal.loop-state-preserved
loop-state-preserved c = c.in_ok-push.ensures.ok ∙ row_more (λ s. None) c.loop-state._state-index c.loop-state.table None c.loop-state.invariant refl

pub returns : goal.returns
returns c =
    let all : c.loop-state._state-index ≡ length c.args.chart.now.states = search rules in
    c.loop-state.invariant ∙ ap (λ n. map (λ s. None) (range_with_len 0 n)) all
