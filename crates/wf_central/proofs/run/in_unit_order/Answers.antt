use Rattle.std.proofs.Common.{◌++◌, ◌==◌, filter, arith, sym, ap, ◌∙◌}
use Rattle.wf_model.proofs.Few.{few_units}
use Rattle.wf_central.proofs.Standings.{pieces_more}
use Rattle.wf_central.proofs.run.in_unit_order.Goals as goal

pub overflow_cast-unit : goal.overflow_cast-unit
overflow_cast-unit c = omega (arith, few_units c.args.chart.now c.requires)

pub loop-unit-preserved : goal.loop-unit-preserved
loop-unit-preserved c =
    c.in_ok-append_of.ensures ∙ ap (λ l. l ++ filter (λ x. x.unit.0 == c.loop-unit.unit) c.args.entries.now) c.loop-unit.invariant
    ∙ sym (pieces_more (λ u. filter (λ x. x.unit.0 == u) c.args.entries.now) c.loop-unit.unit)
