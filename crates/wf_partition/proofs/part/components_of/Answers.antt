use Rattle.std.proofs.Common.{◌≡◌, ◌<◌, ◌∙◌, length, get_or, map, filter, rules, ap}
use Rattle.std.specs.List.{range_with_len}
use Rattle.wf_parts.specs.Components.{component_of}
use Rattle.wf_parts.specs.Known.{is_state_of}
use Rattle.wf_partition.proofs.Concerned.{component_at, components_len}
use Rattle.wf_partition.proofs.Known.{component_kept, component_left}
use Rattle.wf_partition.proofs.part.components_of.Goals as goal
use Rattle.wf_partition.proofs.part.components_of.Goals.{then-is_state_of+in_ok-component+in_ok-push, else-is_state_of}

pub loop-component-preserved : goal.loop-component-preserved
loop-component-preserved c =
    let chart = c.args.chart.now in
    let u = c.args.unit.0 in
    let i = c.loop-component.component-index in
    let item = c.component-item.result in
    let within : c.loop-component.component-index < length c.args.flat.now.components = search rules in
    let there : c.component-item.result ≡ get_or c.args.flat.now.components c.loop-component.component-index c.component-item.result = search rules in
    let is = component_at chart c.args.flat.now i item c.requires within there in
    elim c.if-is_state_of.branch [
      | then-is_state_of+in_ok-component+in_ok-push w ↦ w.components-is
          ∙ component_kept chart u i item w.in_ok-component.component c.is_state_of.result c.loop-component.components w.push.new.self is c.is_state_of.ensures w.if-is_state_of.true
          w.in_ok-component.ensures c.loop-component.invariant w.in_ok-push.ensures.ok
      | else-is_state_of w ↦ w.components-is
          ∙ component_left chart u i item c.is_state_of.result c.loop-component.components is c.is_state_of.ensures w.if-is_state_of.false c.loop-component.invariant
    ]

pub returns : goal.returns
returns c =
    let all : c.loop-component.component-index ≡ length c.args.flat.now.components = search rules in
    c.loop-component.invariant
    ∙ ap (λ n. map (component_of c.args.chart.now) (filter (is_state_of c.args.chart.now c.args.unit.0) (range_with_len 0 n))) (all ∙ components_len c.args.chart.now c.args.flat.now c.requires)
