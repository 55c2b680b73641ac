use Rattle.std.proofs.Common.{arith, ◌∙◌}
use Rattle.wf_semantics.specs.Configuration.{is_in}
use Rattle.wf_semantics.specs.Entry.{default_tree}
use Rattle.wf_semantics.proofs.Facts.{chart_of}
use Rattle.wf_model.proofs.Rows.{row_more}
use Rattle.wf_scopes.proofs.defaults.default_bits.Goals as goal

pub overflow_cast-z : goal.overflow_cast-z
overflow_cast-z c = omega (arith, (chart_of c.args.chart.now c.requires).few_states)

pub loop-z-preserved : goal.loop-z-preserved
loop-z-preserved c = c.in_ok-push.ensures.ok ∙ row_more (λ s. is_in s (default_tree c.args.chart.now 0)) c.loop-z.z c.loop-z.bits c.is_default.result c.loop-z.invariant c.is_default.ensures
