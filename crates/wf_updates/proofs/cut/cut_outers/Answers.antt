use Rattle.std.proofs.Common.{◌∙◌, sym}
use Rattle.wf_views.specs.Knowledge.{cut_outer}
use Rattle.wf_updates.specs.Tables.{told_by}
use Rattle.wf_updates.proofs.Cuts.{kept_more, left_more}
use Rattle.wf_updates.proofs.cut.cut_outers.Goals as goal
use Rattle.wf_updates.proofs.cut.cut_outers.Goals.{in-Some+in_ok-push, in_default}

pub loop-outer-preserved : goal.loop-outer-preserved
loop-outer-preserved c = elim c.match-branch-2.branch [
  | in-Some+in_ok-push w ↦ w.cut-is
      ∙ kept_more (cut_outer (told_by c.args.known.now)) c.args.outers.now c.loop-outer.outer-index c.outer-item.result w.in-Some.outer c.loop-outer.cut w.push.new.self c.loop-outer-test.true c.outer-item.is
      (sym c.in_ok-outer.ensures ∙ w.in-Some.is) c.loop-outer.invariant w.in_ok-push.ensures.ok
  | in_default w ↦ w.cut-is
      ∙ left_more (cut_outer (told_by c.args.known.now)) c.args.outers.now c.loop-outer.outer-index c.outer-item.result c.loop-outer.cut c.loop-outer-test.true c.outer-item.is
      (sym c.in_ok-outer.ensures ∙ w.in_default.is) c.loop-outer.invariant
]
