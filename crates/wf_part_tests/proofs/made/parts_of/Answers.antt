use Rattle.std.proofs.Common.{◌∙◌, length, ap, arith}
use Rattle.wf_model.specs.declared.chart.Chart.{Chart}
use Rattle.wf_model.proofs.Few.{few_units}
use Rattle.wf_model.proofs.Rows.{row_more}
use Rattle.wf_parts.specs.Parts.{part_of}
use Rattle.wf_part_tests.proofs.made.parts_of.Goals as goal

pub overflow_cast-unit : goal.overflow_cast-unit
overflow_cast-unit c = omega (arith, few_units c.args.checked.now c.chart.ensures.accepted, ap (λ (chart : Chart). length chart.units) c.chart.ensures.same)

pub loop-unit-preserved : goal.loop-unit-preserved
loop-unit-preserved c = c.in_ok-push.ensures.items ∙ row_more (part_of c.args.checked.now) c.loop-unit.unit c.loop-unit.parts.items c.in_ok-part.part c.loop-unit.invariant c.in_ok-part.ensures
