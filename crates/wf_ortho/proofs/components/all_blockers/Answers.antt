use Rattle.std.proofs.Common.{arith, ◌∙◌}
use Rattle.wf_semantics.proofs.Facts.{chart_of}
use Rattle.wf_model.proofs.Rows.{row_more}
use Rattle.wf_parts.specs.Components.{blocker_ids}
use Rattle.wf_ortho.proofs.components.all_blockers.Goals as goal

pub overflow_cast-t : goal.overflow_cast-t
overflow_cast-t c = omega (arith, (chart_of c.args.chart.now c.requires.accepted).few_transitions)

pub loop-t-preserved : goal.loop-t-preserved
loop-t-preserved c = c.in_ok-push.ensures.ok ∙ row_more (blocker_ids c.args.chart.now) c.loop-t.t c.loop-t.table c.in_ok-ids.ids c.loop-t.invariant c.in_ok-ids.ensures
