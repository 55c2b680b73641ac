use Rattle.std.proofs.Common.{◌<◌, length, sym, ◌∙◌, arith}
use Rattle.wf_job.proofs.Values.{value_missing}
use Rattle.wf_job.proofs.rules.are_values.Goals as goal

pub returns-in_default : goal.returns-in_default
returns-in_default c =
    let none : length c.loop-var.rest.now < 1 = omega arith in
    sym (value_missing c.args.chart.now c.args.vars.now c.loop-var.var-index c.loop-var.rest.now (omega arith) none) ∙ c.loop-var.invariant
