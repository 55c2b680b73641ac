use Rattle.std.proofs.Common.{arith}
use Rattle.wf_actions.proofs.Winners.{item_below, winners_all}
use Rattle.wf_actions.proofs.writes.winners.Goals as goal

pub index-requires : goal.index-requires
index-requires c = omega (arith, c.loop-write.invariant.0, item_below c.args.writes.now c.loop-write.write-index c.write-item.result c.write-item.is (omega arith))

pub index_mut-requires : goal.index_mut-requires
index_mut-requires c = omega (arith, c.loop-write.invariant.0, item_below c.args.writes.now c.loop-write.write-index c.write-item.result c.write-item.is (omega arith))

pub returns : goal.returns
returns c = winners_all c.args.writes.now c.loop-write.best.items c.loop-write.write-index (omega arith) c.loop-write.invariant.0 c.loop-write.invariant.1
