use Rattle.std.proofs.Common.{arith, ◌∙◌}
use Rattle.wf_semantics.proofs.Facts.{chart_of}
use Rattle.wf_model.proofs.Rows.{row_more}
use Rattle.wf_central.specs.Passes.{firing_by}
use Rattle.wf_central.proofs.passes.firing_table.Goals as goal

pub overflow_cast-s : goal.overflow_cast-s
overflow_cast-s c = omega (arith, (chart_of c.args.chart.now c.requires.accepted).few_states)

pub loop-s-preserved : goal.loop-s-preserved
loop-s-preserved c = c.in_ok-push.ensures.ok ∙ row_more (firing_by c.args.chart.now c.args.chosen.now) c.loop-s.s c.loop-s.table c.firing_at.result c.loop-s.invariant c.firing_at.ensures
