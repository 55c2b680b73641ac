use Rattle.std.proofs.Common.{◌∙◌, length, ap, arith}
use Rattle.wf_model.specs.declared.chart.Chart.{Chart}
use Rattle.wf_model.proofs.Few.{few_units}
use Rattle.wf_model.proofs.Rows.{row_more}
use Rattle.wf_partition.specs.Marked.{unit_bits}
use Rattle.wf_partition.proofs.knowing.all_bits.Goals as goal

pub overflow_cast-unit : goal.overflow_cast-unit
overflow_cast-unit c = omega (arith, few_units c.args.checked.now c.chart.ensures.accepted, ap (λ (chart : Chart). length chart.units) c.chart.ensures.same)

pub loop-unit-preserved : goal.loop-unit-preserved
loop-unit-preserved c = c.in_ok-push.ensures.ok ∙ row_more (unit_bits c.args.checked.now) c.loop-unit.unit c.loop-unit.all c.in_ok-bits.bits c.loop-unit.invariant c.in_ok-bits.ensures
