use Rattle.std.proofs.Common.{◌≡◌, ◌<◌, ◌∙◌, length, map, get_or, rules, ap}
use Rattle.std.specs.List.{range_with_len}
use Rattle.wf_parts.specs.Known.{is_state_of}
use Rattle.wf_model.proofs.Rows.{row_more}
use Rattle.wf_partition.proofs.KnownBits.{state_at}
use Rattle.wf_partition.proofs.holding.states_at.Goals as goal

pub loop-state-preserved : goal.loop-state-preserved
loop-state-preserved c =
    let within : c.loop-state.state-index < length c.args.chart.now.states = search rules in
    let there : c.state-item.result ≡ get_or c.args.chart.now.states c.loop-state.state-index c.state-item.result = search rules in
    c.in_ok-push.ensures.ok
    ∙ row_more (is_state_of c.args.chart.now c.args.unit.0) c.loop-state.state-index c.loop-state.bits _ c.loop-state.invariant (state_at c.args.chart.now c.args.unit.0 c.loop-state.state-index c.state-item.result within there)

pub returns : goal.returns
returns c =
    let all : c.loop-state.state-index ≡ length c.args.chart.now.states = search rules in
    c.loop-state.invariant ∙ ap (λ n. map (is_state_of c.args.chart.now c.args.unit.0) (range_with_len 0 n)) all
