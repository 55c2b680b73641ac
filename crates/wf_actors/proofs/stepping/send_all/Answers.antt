use Rattle.std.proofs.Common.{arith}
use Rattle.wf_actors.proofs.Moving.{reach_stays}
use Rattle.wf_actors.proofs.stepping.send_all.Goals as goal

pub send_to-requires-clause-reach : goal.send_to-requires-clause-reach
send_to-requires-clause-reach g c =
    let i = c.loop-unit.invariant in
    let lt = c.loop-unit-test.true in
    let units = i.units in
    reach_stays c.args.port.now c.loop-unit.port c.loop-unit.unit i.ways (c.requires.reach c.loop-unit.unit (omega (arith, lt, units)))
