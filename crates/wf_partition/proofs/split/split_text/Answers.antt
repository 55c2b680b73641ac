use Rattle.std.proofs.Common.{◌++◌, ◌∙◌, List, ℕ, length, ap, sym, arith}
use Rattle.wf_model.specs.declared.chart.Chart.{Chart}
use Rattle.wf_parts.specs.Parts.{part_of}
use Rattle.wf_partition.specs.SplitText.{part_text}
use Rattle.wf_model.proofs.Few.{few_units}
use Rattle.wf_partition.proofs.UnitTexts.{pieces_more}
use Rattle.wf_partition.proofs.split.split_text.Goals as goal

pub overflow_cast-unit : goal.overflow_cast-unit
overflow_cast-unit c = omega (arith, few_units c.args.checked.now c.chart-chart.ensures.accepted, ap (λ (chart : Chart). length chart.units) c.chart-chart.ensures.same)

pub loop-unit-preserved : goal.loop-unit-preserved
loop-unit-preserved c =
    c.in_ok-append_unit.ensures
    ∙ ap (λ (x : Chart). c.loop-unit.text ++ part_text x (part_of x c.loop-unit.unit)) c.chart-chart.ensures.same
    ∙ ap (λ (l : List ℕ). l ++ part_text c.args.checked.now (part_of c.args.checked.now c.loop-unit.unit)) c.loop-unit.invariant
    ∙ sym (pieces_more (λ u. part_text c.args.checked.now (part_of c.args.checked.now u)) c.loop-unit.unit)
