use Rattle.std.proofs.Common.{arith}
use Rattle.wf_actors.proofs.Short.{some_missing}
use Rattle.wf_actors.proofs.stepping.is_short.Goals as goal

pub returns : goal.returns
returns g c all =
    let fits = c.ranges.absent.fits in
    some_missing c.args.node.now.part c.args.node.now.came c.args.absent (omega (arith, fits)) c.requires.missing c.requires.some all
