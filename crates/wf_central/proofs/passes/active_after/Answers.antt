use Rattle.std.proofs.Common.{arith, ◌∙◌}
use Rattle.wf_semantics.proofs.Facts.{chart_of}
use Rattle.wf_model.proofs.Rows.{row_more}
use Rattle.wf_central.specs.Passes.{moved_by}
use Rattle.wf_central.proofs.passes.active_after.Goals as goal

pub overflow_cast-z : goal.overflow_cast-z
overflow_cast-z c = omega (arith, (chart_of c.args.chart.now c.requires.accepted).few_states)

pub loop-z-preserved : goal.loop-z-preserved
loop-z-preserved c = c.in_ok-push.ensures.ok ∙ row_more (moved_by c.args.chart.now c.args.active.now c.args.firing.now) c.loop-z.z c.loop-z.bits c.is_in_then.result c.loop-z.invariant c.is_in_then.ensures
