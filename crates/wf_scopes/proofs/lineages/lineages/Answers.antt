use Rattle.std.proofs.Common.{◌≡◌, ◌<◌, get_or, length, map, rules, ◌∙◌}
use Rattle.std.specs.List.{range_with_len}
use Rattle.wf_scopes.specs.Tables.{ancestor_ids}
use Rattle.wf_model.proofs.Rows.{row_more}
use Rattle.wf_scopes.proofs.Lines.{line_read}
use Rattle.wf_scopes.proofs.lineages.lineages.Goals as goal

pub loop-state-preserved : goal.loop-state-preserved
loop-state-preserved c =
    let within : c.loop-state.state-index < length c.args.chart.now.states = search rules in
    let item : c.state-item.result ≡ get_or c.args.chart.now.states c.loop-state.state-index c.state-item.result = search rules in
    let rows : c.as_slice.result.now ≡ map (ancestor_ids c.args.chart.now) (range_with_len 0 c.loop-state.state-index) = c.as_slice.ensures ∙ c.loop-state.invariant in
    c.in_ok-push.ensures.ok
    ∙ row_more (ancestor_ids c.args.chart.now) c.loop-state.state-index c.loop-state.table c.in_ok-ids.ids c.loop-state.invariant
    (c.in_ok-ids.ensures ∙ line_read c.args.chart.now c.as_slice.result.now c.loop-state.state-index c.state-item.result c.requires rows within item)
