use Rattle.std.proofs.Common.{◌*◌}
use Rattle.wf_parts.specs.Rows.{row_of}
use Rattle.wf_parts.proofs.Blocking.{map_step}
use Rattle.wf_parts.proofs.rows.rows_of.Goals as goal

pub loop-trans-preserved : goal.loop-trans-preserved
loop-trans-preserved g c =
    map_step (row_of (64 * g.row.W) c.args.transitions.now) c.args.transitions.now c.loop-trans.trans-index c.trans-item.result c.row_of.result c.loop-trans.rows c.push.new.self
    c.loop-trans-test.true c.trans-item.is c.row_of.ensures c.loop-trans.invariant c.in_ok-push.ensures.ok
