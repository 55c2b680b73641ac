use Rattle.std.proofs.lemmas.Option.{slice_get-get_or}
use Rattle.std.proofs.Common.{get_or, ◌∙◌, arith}
use Rattle.wf_actors.proofs.Answered.{desk_answered, desk_asked, answered_then, asked_then, rings_set, set_long}
use Rattle.wf_actors.proofs.Admitting.{admits_then}
use Rattle.wf_actors.proofs.answering.answer_all.Goals as goal

pub loop-m-preserved : goal.loop-m-preserved
loop-m-preserved g c =
    let i = c.loop-m.invariant in
    let e = c.answer_desk.ensures in
    let first = c.args.node.now in
    let before = c.loop-m.node in
    let now = c.answer_desk.new.node in
    let desks = c.loop-m.desks in
    let m = c.loop-m.m in
    let desk = get_or desks m c.index-desks-m.result in
    let after = c.answer_desk.new.desk in
    let at = slice_get-get_or desks m c.index-desks-m.result (let lt = c.loop-m-test.true in let len = i.len in omega (arith, lt, len)) in
    record {
      admits = admits_then g.D.Disk.told first before now i.admits e.admits;
      len = set_long desks m after ∙ i.len;
      rings = rings_set desks m desk after at e.ring ∙ i.rings;
      said = answered_then first.past before.past now.past _ desks _ i.said (desk_answered before.past now.past desks m desk after at c.in_ok-answer_desk.ensures.said);
      some = asked_then first.past before.past now.past _ desks _ i.some (desk_asked before.past now.past desks m desk after at e.some);
      working = c.in_ok-answer_desk.ensures.working (λ is. absurd (cc is));
    }

pub returns-in_err-answer_desk-clause-admits : goal.returns-in_err-answer_desk-clause-admits
returns-in_err-answer_desk-clause-admits g c = admits_then g.D.Disk.told c.args.node.now c.loop-m.node c.answer_desk.new.node c.loop-m.invariant.admits c.answer_desk.ensures.admits

pub returns-in_err-answer_desk-clause-rings : goal.returns-in_err-answer_desk-clause-rings
returns-in_err-answer_desk-clause-rings g c =
    rings_set c.loop-m.desks c.loop-m.m (get_or c.loop-m.desks c.loop-m.m c.index-desks-m.result) c.answer_desk.new.desk
    (slice_get-get_or c.loop-m.desks c.loop-m.m c.index-desks-m.result (let lt = c.loop-m-test.true in let len = c.loop-m.invariant.len in omega (arith, lt, len))) c.answer_desk.ensures.ring
    ∙ c.loop-m.invariant.rings

pub returns-in_err-answer_desk-clause-some : goal.returns-in_err-answer_desk-clause-some
returns-in_err-answer_desk-clause-some g c =
    asked_then c.args.node.now.past c.loop-m.node.past c.answer_desk.new.node.past _ c.loop-m.desks _ c.loop-m.invariant.some
    (desk_asked c.loop-m.node.past c.answer_desk.new.node.past c.loop-m.desks c.loop-m.m (get_or c.loop-m.desks c.loop-m.m c.index-desks-m.result) c.answer_desk.new.desk
    (slice_get-get_or c.loop-m.desks c.loop-m.m c.index-desks-m.result (let lt = c.loop-m-test.true in let len = c.loop-m.invariant.len in omega (arith, lt, len))) c.answer_desk.ensures.some)
