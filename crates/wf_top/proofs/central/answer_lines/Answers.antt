use Rattle.std.proofs.Common.{length, ap, arith}
use Rattle.wf_audit.proofs.Scripts.{script_short}
use Rattle.wf_top.proofs.central.answer_lines.Goals as goal

pub run-requires : goal.run-requires
run-requires c = omega (arith, ap length c.as_slice.ensures, script_short c.args.chart.now c.args.script.now c.in-Ok.lines c.in-Ok.ensures, c.requires.few)
