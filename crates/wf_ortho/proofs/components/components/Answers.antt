use Rattle.std.proofs.Common.{◌≡◌, ℕ, Bool, false, length, map, arith, ap, ◌∙◌}
use Rattle.std.specs.List.{range_with_len}
use Rattle.wf_model.specs.declared.chart.Chart.{Chart}
use Rattle.wf_semantics.specs.Configuration.{is_in}
use Rattle.wf_semantics.specs.Entry.{default_tree}
use Rattle.wf_semantics.proofs.Facts.{chart_of}
use Rattle.wf_model.proofs.Rows.{row_at, row_len, row_more}
use Rattle.wf_parts.specs.Components.{component_of}
use Rattle.wf_ortho.proofs.components.components.Goals as goal

-- the bits, as the loop reads them
abbrev first_in : Chart → ℕ → Bool
first_in chart z = is_in z (default_tree chart 0)

pub overflow_cast-z : goal.overflow_cast-z
overflow_cast-z c =
    let chart = c.args.chart.now in
    omega (
      arith,
      row_len (first_in chart) (length chart.states) c.as_slice-first-items.result.now (c.as_slice-first-items.ensures ∙ c.in_ok-bits.ensures),
      (chart_of chart c.requires.accepted).few_states,
    )

pub component-requires-clause-in_range : goal.component-requires-clause-in_range
component-requires-clause-in_range c =
    let chart = c.args.chart.now in
    omega (arith, row_len (first_in chart) (length chart.states) c.as_slice-first-items.result.now (c.as_slice-first-items.ensures ∙ c.in_ok-bits.ensures))

pub component-requires-clause-first : goal.component-requires-clause-first
component-requires-clause-first c =
    let chart = c.args.chart.now in
    let rows = c.as_slice-first-items.ensures ∙ c.in_ok-bits.ensures in
    row_at (first_in chart) (length chart.states) c.loop-z.z false c.as_slice-first-items.result.now rows
    (omega (arith, row_len (first_in chart) (length chart.states) c.as_slice-first-items.result.now rows))

pub loop-z-preserved : goal.loop-z-preserved
loop-z-preserved c = c.in_ok-push.ensures.ok ∙ row_more (component_of c.args.chart.now) c.loop-z.z c.loop-z.list c.in_ok-component.component c.loop-z.invariant c.in_ok-component.ensures

pub returns : goal.returns
returns c =
    let chart = c.args.chart.now in
    let bits = row_len (first_in chart) (length chart.states) c.as_slice-first-items.result.now (c.as_slice-first-items.ensures ∙ c.in_ok-bits.ensures) in
    let all : c.loop-z.z ≡ length chart.states = omega (arith, bits) in
    c.loop-z.invariant ∙ ap (λ n. map (component_of chart) (range_with_len 0 n)) all
