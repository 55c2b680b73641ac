use Rattle.std.proofs.Common.{◌≡◌, ◌<◌, length, map, get_or, rules, ap, ◌∙◌, false}
use Rattle.std.specs.List.{range_with_len}
use Rattle.wf_model.specs.declared.chart.Chart.{Chart}
use Rattle.wf_model.specs.Tree.{all_transitions}
use Rattle.wf_parts.specs.Known.{is_state_of}
use Rattle.wf_partition.proofs.Concerned.{moved_before, concerned_more, concerned_all}
use Rattle.wf_partition.specs.Marked.{moves}
use Rattle.wf_partition.proofs.Bits.{marked_counted, marked_skipped}
use Rattle.wf_partition.proofs.marks.concerned_bits.Goals as goal
use Rattle.wf_partition.proofs.marks.concerned_bits.Goals.{then-is_state_of, else-is_state_of}

pub loop-component-init : goal.loop-component-init
loop-component-init c =
    c.in_ok-bits.ensures ∙ ap (λ n. map (λ k. false) (range_with_len 0 n)) (c.len.ensures ∙ ap (λ (x : Chart). length x.transitions) c.chart-chart.ensures.same)

pub loop-component-preserved : goal.loop-component-preserved
loop-component-preserved c =
    let within : c.loop-component.component-index < length c.args.flat.now.components = search rules in
    let item : c.component-item.result ≡ get_or c.args.flat.now.components c.loop-component.component-index c.component-item.result = search rules in
    let counts : c.is_state_of.result ≡ is_state_of c.args.checked.now c.args.unit.0 c.component-item.result.state.0 =
    c.is_state_of.ensures ∙ ap (λ x. is_state_of x c.args.unit.0 c.component-item.result.state.0) c.chart-chart.ensures.same in
    let more = concerned_more c.args.checked.now c.args.flat.now c.args.unit.0 c.loop-component.component-index c.component-item.result c.is_state_of.result c.loop-component.bits _
    c.requires.flat within item counts c.loop-component.invariant in
    elim c.if-is_state_of.branch [
      | then-is_state_of w ↦ more (w.bits-is ∙ marked_counted c.is_state_of.result (moves c.component-item.result) c.loop-component.bits w.mark_component.new.bits w.if-is_state_of.true w.mark_component.ensures)
      | else-is_state_of w ↦ more (w.bits-is ∙ marked_skipped c.is_state_of.result (moves c.component-item.result) c.loop-component.bits w.if-is_state_of.false)
    ]

pub returns : goal.returns
returns c =
    let all : c.loop-component.component-index ≡ length c.args.flat.now.components = search rules in
    concerned_all c.args.checked.now c.args.flat.now c.args.unit.0 c.loop-component.bits c.chart-chart.ensures.accepted c.requires.flat
    (c.loop-component.invariant ∙ ap (λ n. map (moved_before c.args.checked.now c.args.unit.0 n) (all_transitions c.args.checked.now)) all)
