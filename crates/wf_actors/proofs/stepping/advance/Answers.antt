use Rattle.std.proofs.Common.{ap, arith}
use Rattle.wf_parts.specs.declared.data.PartData.{PartData}
use Rattle.wf_actors.proofs.Moving.{reach_stays, moves_then, taking_moves}
use Rattle.wf_actors.proofs.stepping.advance.Goals as goal

pub returns-in_err-went-clause-moves : goal.returns-in_err-went-clause-moves
returns-in_err-went-clause-moves g c = c.go.ensures.moves c.args.refused.now

pub take_in_all-requires : goal.take_in_all-requires
take_in_all-requires g c =
    let m = c.go.ensures.moves c.args.refused.now in
    record {
      reach = (λ v lt.
          let same = ap (λ (p : PartData). p.units) m.part in
          reach_stays c.args.port.now c.go.new.port v m.rings (c.requires.reach v (omega (arith, lt, same))));
    }

pub returns-clause-moves : goal.returns-clause-moves
returns-clause-moves g c =
    let told = g.D.Disk.told in
    let t = c.take_in_all.ensures in
    moves_then told c.args.node.now c.go.new.node c.take_in_all.new.node c.args.port.now c.go.new.port c.take_in_all.new.port c.args.refused.now c.args.refused.now c.take_in_all.new.refused
    (c.go.ensures.moves c.args.refused.now)
    (taking_moves told c.go.new.node c.take_in_all.new.node c.go.new.port c.take_in_all.new.port c.args.refused.now c.take_in_all.new.refused t.rest t.ways t.rows)
