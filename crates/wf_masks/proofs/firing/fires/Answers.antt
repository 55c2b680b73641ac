use Rattle.std.proofs.Common.{◌≡◌, ◌∙◌, ◌*◌, ◌&&◌, not, Bool, List, [], sym, ap, arith}
use Rattle.std.proofs.lemmas.List.{get_or_default}
use Rattle.wf_model.specs.Bits.{bit}
use Rattle.wf_masks.specs.Masks.{fires_of, meet}
use Rattle.wf_masks.proofs.Words.{fired_more, passed_over, none_fire}
use Rattle.wf_masks.proofs.firing.fires.Goals as goal
use Rattle.wf_masks.proofs.firing.fires.Goals.{then-is_unblocked, else-is_unblocked}

pub loop-t-init : goal.loop-t-init
loop-t-init g c = c.new-firing.ensures ∙ none_fire (fires_of c.args.enabled.now c.args.blockers.now) (64 * g.row.W)

pub loop-t-preserved : goal.loop-t-preserved
loop-t-preserved g c =
    let enabled = c.args.enabled.now in
    let blockers = c.args.blockers.now in
    let t = c.loop-t.t in
    let row = c.index-blockers-t.result in
    let f = fires_of enabled blockers in
    let told : f t ≡ c.is_unblocked.result =
    ap (λ (r : List Bool). bit enabled t && not (meet enabled r)) (get_or_default blockers t [] row c.loop-t-test.true ∙ sym c.index-blockers-t.is) ∙ sym c.is_unblocked.ensures in
    elim c.if-is_unblocked.branch [
      | then-is_unblocked w ↦ w.firing-is ∙ w.set.ensures ∙ fired_more f (64 * g.row.W) t c.loop-t.firing c.loop-t.invariant (omega (arith, c.loop-t-test.true, c.requires.rows)) (told ∙ w.if-is_unblocked.true)
      | else-is_unblocked w ↦ w.firing-is ∙ passed_over f (64 * g.row.W) t c.loop-t.firing c.loop-t.invariant (told ∙ w.if-is_unblocked.false)
    ]
