use Rattle.std.proofs.Common.{refl, ap, ◌∙◌}
use Rattle.wf_exchange.specs.Rings.{ring_out, popped}
use Rattle.wf_actors.proofs.Answered.{more_none, more_one, more_then, asks_none, asks_one, asks_then}
use Rattle.wf_actors.proofs.Admitting.{admits_stay, admits_then}
use Rattle.wf_actors.proofs.answering.settle_desk.Goals as goal

pub loop-item-init : goal.loop-item-init
loop-item-init g c =
    let now = c.args.node.now in
    let desk = c.args.desk.now in
    record {
      admits = admits_stay g.D.Disk.told now;
      ring = refl;
      end = (refl, refl);
      said = more_none now.past (popped desk.mouth) desk.answers;
      some = asks_none now.past (popped desk.mouth);
      working = c.requires.working;
    }

pub loop-item-preserved-in_ok-answer_at : goal.loop-item-preserved-in_ok-answer_at
loop-item-preserved-in_ok-answer_at g c =
    let i = c.loop-item.invariant in
    let s = c.settle_line.ensures in
    let e = c.answer_at.ensures in
    let first = c.args.node.now in
    let before = c.loop-item.node in
    let now = c.answer_at.new.node in
    let came = ap popped e.mouth ∙ c.in-Some.ensures.some in
    record {
      admits = admits_then g.D.Disk.told first before now i.admits e.admits;
      ring = ap ring_out e.mouth ∙ s.mouth ∙ i.ring;
      end = (s.end.0 ∙ i.end.0, s.end.1 ∙ i.end.1);
      said = more_then first.past before.past now.past _ _ _ _ _ _ i.said (more_one before.past now.past _ _ _ _ c.in-Some.item came c.in_ok-answer_at.ensures.said);
      some = asks_then first.past before.past now.past _ _ _ i.some (asks_one before.past now.past _ _ c.in-Some.item came e.some);
      working = c.in_ok-answer_at.ensures.working (λ is. absurd (cc is));
    }

pub loop-item-preserved : goal.loop-item-preserved
loop-item-preserved g c =
    let i = c.loop-item.invariant in
    let s = c.settle_line.ensures in
    let e = c.answer_at.ensures in
    let first = c.args.node.now in
    let before = c.loop-item.node in
    let now = c.answer_at.new.node in
    let came = ap popped e.mouth ∙ c.in-Some.ensures.some in
    record {
      admits = admits_then g.D.Disk.told first before now i.admits e.admits;
      ring = ap ring_out e.mouth ∙ s.mouth ∙ i.ring;
      end = (s.end.0 ∙ i.end.0, s.end.1 ∙ i.end.1);
      said = more_then first.past before.past now.past _ _ _ _ _ _ i.said (more_one before.past now.past _ _ _ _ c.in-Some.item came c.in_ok-answer_at.ensures.said);
      some = asks_then first.past before.past now.past _ _ _ i.some (asks_one before.past now.past _ _ c.in-Some.item came e.some);
      working = c.in_ok-answer_at.ensures.working (λ is. absurd (cc is));
    }

pub returns-in_err-answer_at-clause-admits : goal.returns-in_err-answer_at-clause-admits
returns-in_err-answer_at-clause-admits g c = admits_then g.D.Disk.told c.args.node.now c.loop-item.node c.answer_at.new.node c.loop-item.invariant.admits c.answer_at.ensures.admits

pub returns-in_err-answer_at-clause-some : goal.returns-in_err-answer_at-clause-some
returns-in_err-answer_at-clause-some g c =
    let e = c.answer_at.ensures in
    asks_then c.args.node.now.past c.loop-item.node.past c.answer_at.new.node.past _ _ _ c.loop-item.invariant.some
    (asks_one c.loop-item.node.past c.answer_at.new.node.past _ _ c.in-Some.item (ap popped e.mouth ∙ c.in-Some.ensures.some) e.some)
