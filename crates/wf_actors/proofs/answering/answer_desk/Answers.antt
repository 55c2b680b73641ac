use Rattle.std.proofs.Common.{refl, ◌∙◌}
use Rattle.wf_exchange.specs.Rings.{popped}
use Rattle.wf_actors.proofs.Answered.{more_none, more_then, asks_none, asks_then}
use Rattle.wf_actors.proofs.Admitting.{admits_stay, admits_then}
use Rattle.wf_actors.proofs.answering.answer_desk.Goals as goal

pub loop-init : goal.loop-init
loop-init g c =
    let now = c.args.node.now in
    let desk = c.args.desk.now in
    record {
      admits = admits_stay g.D.Disk.told now;
      ring = refl;
      said = more_none now.past (popped desk.mouth) desk.answers;
      some = asks_none now.past (popped desk.mouth);
      working = c.requires.working;
    }

pub loop-preserved : goal.loop-preserved
loop-preserved g c =
    let i = c.loop.invariant in
    let e = c.answer_next.ensures in
    let first = c.args.node.now in
    let before = c.loop.node in
    let now = c.answer_next.new.node in
    record {
      admits = admits_then g.D.Disk.told first before now i.admits e.admits;
      ring = e.ring ∙ i.ring;
      said = more_then first.past before.past now.past _ _ _ _ _ _ i.said c.in_ok-answer_next.ensures.said;
      some = asks_then first.past before.past now.past _ _ _ i.some e.some;
      working = c.in_ok-answer_next.ensures.working (λ is. absurd (cc is));
    }

pub returns-in_err-answer_next-clause-admits : goal.returns-in_err-answer_next-clause-admits
returns-in_err-answer_next-clause-admits g c = admits_then g.D.Disk.told c.args.node.now c.loop.node c.answer_next.new.node c.loop.invariant.admits c.answer_next.ensures.admits

pub returns-in_err-answer_next-clause-some : goal.returns-in_err-answer_next-clause-some
returns-in_err-answer_next-clause-some g c = asks_then c.args.node.now.past c.loop.node.past c.answer_next.new.node.past _ _ _ c.loop.invariant.some c.answer_next.ensures.some

pub returns-then-not-branch-clause-admits : goal.returns-then-not-branch-clause-admits
returns-then-not-branch-clause-admits g c = admits_then g.D.Disk.told c.args.node.now c.loop.node c.answer_next.new.node c.loop.invariant.admits c.answer_next.ensures.admits

pub returns-then-not-branch-clause-said : goal.returns-then-not-branch-clause-said
returns-then-not-branch-clause-said g c = more_then c.args.node.now.past c.loop.node.past c.answer_next.new.node.past _ _ _ _ _ _ c.loop.invariant.said c.in_ok-answer_next.ensures.said

pub returns-then-not-branch-clause-some : goal.returns-then-not-branch-clause-some
returns-then-not-branch-clause-some g c = asks_then c.args.node.now.past c.loop.node.past c.answer_next.new.node.past _ _ _ c.loop.invariant.some c.answer_next.ensures.some
