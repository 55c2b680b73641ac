use Rattle.std.proofs.Common.{ap, ◌∙◌, arith}
use Rattle.wf_server.specs.Servers.{Server}
use Rattle.wf_exchange.specs.Ports.{popped_from}
use Rattle.wf_actors.specs.Taking.{Anywhere}
use Rattle.wf_actors.proofs.Moving.{reach_stays}
use Rattle.wf_actors.proofs.Peering.{rows_then}
use Rattle.wf_actors.proofs.stepping.take_in_all.Goals as goal

pub take_in_of-requires-clause-unit : goal.take_in_of-requires-clause-unit
take_in_of-requires-clause-unit g c =
    let i = c.loop-unit.invariant in
    let lt = c.loop-unit-test.true in
    let units = i.units in
    let same = ap (λ (s : Server _). s.part.units) i.rest in
    omega (arith, lt, units, same)

pub take_in_of-requires-clause-reach : goal.take_in_of-requires-clause-reach
take_in_of-requires-clause-reach g c =
    let i = c.loop-unit.invariant in
    let lt = c.loop-unit-test.true in
    let units = i.units in
    reach_stays c.args.port.now c.loop-unit.port c.loop-unit.unit i.ways (c.requires.reach c.loop-unit.unit (omega (arith, lt, units)))

pub loop-unit-preserved : goal.loop-unit-preserved
loop-unit-preserved g c =
    let i = c.loop-unit.invariant in
    let e = c.take_in_of.ensures in
    let first = c.args.node.now in
    let before = c.loop-unit.node in
    let now = c.take_in_of.new.node in
    record {
      units = i.units;
      ways = e.ways ∙ i.ways;
      ends = (λ v. e.ends v ∙ i.ends v);
      rest = e.rest ∙ ap (λ (s : Server _). record s { came = now.came; early = now.early }) i.rest;
      stays = (λ v s x at. e.stays v s x (i.stays v s x at));
      rows = rows_then Anywhere first before now (popped_from c.args.port.now) (popped_from c.loop-unit.port) (popped_from c.take_in_of.new.port) c.args.refused.now c.loop-unit.refused c.take_in_of.new.refused i.rows e.rows;
    }
