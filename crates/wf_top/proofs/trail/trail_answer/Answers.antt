use Rattle.std.proofs.Common.{length, arith, ap}
use Rattle.wf_top.proofs.Parts.{chart_short}
use Rattle.wf_top.proofs.trail.trail_answer.Goals as goal

pub chart_in-requires : goal.chart_in-requires
chart_in-requires g c = omega (arith, ap length c.divide-parts.ensures.chart, chart_short c.args.input.now, c.requires)
