use Rattle.std.proofs.Common.{inl, Ok, ap, ◌∙◌, subst, arith}
use Rattle.wf_histories.specs.Histories.{taken}
use Rattle.wf_actors.specs.Moves.{IsBelow}
use Rattle.wf_actors.proofs.Moving.{moves_then}
use Rattle.wf_actors.proofs.Sends.{sends_then}
use Rattle.wf_actors.proofs.Going.{turns_then}
use Rattle.wf_actors.proofs.Turning.{next_within, goes_on}
use Rattle.wf_actors.proofs.stepping.take_steps.Goals as goal

pub returns-in_err-advance-clause-moves : goal.returns-in_err-advance-clause-moves
returns-in_err-advance-clause-moves g c =
    moves_then g.D.Disk.told c.args.node.now c.loop-turns.node c.advance.new.node c.args.port.now c.loop-turns.port c.advance.new.port c.args.refused.now c.loop-turns.refused c.advance.new.refused
    c.loop-turns.invariant.moves c.advance.ensures.moves

pub returns-then-not-again-clause-moves : goal.returns-then-not-again-clause-moves
returns-then-not-again-clause-moves g c =
    moves_then g.D.Disk.told c.args.node.now c.loop-turns.node c.advance.new.node c.args.port.now c.loop-turns.port c.advance.new.port c.args.refused.now c.loop-turns.refused c.advance.new.refused
    c.loop-turns.invariant.moves c.advance.ensures.moves

pub loop-turns-preserved : goal.loop-turns-preserved
loop-turns-preserved g c =
    let i = c.loop-turns.invariant in
    let e = c.advance.ensures in
    let o = c.in_ok-advance.ensures in
    let first = c.args.node.now in
    let before = c.loop-turns.node in
    let now = c.advance.new.node in
    let m = i.moves in
    let most = i.most in
    let more = e.most in
    let below : IsBelow c.args.target (taken before.past) = subst (IsBelow c.args.target) c.taken.ensures (c.is_there.ensures.no c.if-is_there.false) in
    record {
      moves = moves_then g.D.Disk.told first before now c.args.port.now c.loop-turns.port c.advance.new.port c.args.refused.now c.loop-turns.refused c.advance.new.refused m e.moves;
      boxes = c.advance.auto.outboxes ∙ i.boxes;
      sent = sends_then first before now c.args.port.now c.loop-turns.port c.advance.new.port c.args.outboxes.now c.loop-turns.outboxes c.advance.new.outboxes m.part m.on i.sent o.sent;
      turned = turns_then first.past before.past now.past i.turned e.turns;
      most = omega (arith, most, more);
      target = next_within c.args.target (taken first.past) (taken before.past) (taken now.past) below more;
      goes = (λ all under. inl (goes_on first before now c.loop-turns.turns c.in_ok-advance.field-0 (i.goes all under) e.moves.on (λ yes. o.went (ap Ok yes)) (λ no. o.waits (ap Ok no)) all));
      working = o.working (λ is. absurd (cc is));
    }
