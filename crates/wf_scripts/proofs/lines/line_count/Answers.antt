use Rattle.std.proofs.Common.{◌≢◌, [], length, ap, arith, rules}
use Rattle.wf_scripts.specs.Lines.{lines_of}
use Rattle.wf_scripts.proofs.Divided.{behind_line-shorter}
use Rattle.wf_scripts.proofs.Split.{lines_of-count}
use Rattle.wf_scripts.proofs.lines.line_count.Goals as goal

pub loop-rest-preserved : goal.loop-rest-preserved
loop-rest-preserved c =
    let some : c.loop-rest.rest.now ≢ [] = search rules in
    record {
      counted = omega (arith, c.loop-rest.invariant.counted, lines_of-count c.loop-rest.rest.now some, ap (λ bytes. length (lines_of bytes)) c.split_line.ensures.rest);
      few = omega (arith, c.loop-rest.invariant.few, ap length c.split_line.ensures.rest, behind_line-shorter c.loop-rest.rest.now some);
    }
