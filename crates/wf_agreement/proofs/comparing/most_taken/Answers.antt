use Rattle.std.proofs.Common.{◌∙◌, length}
use Rattle.wf_agreement.proofs.Sending.{history_at, turns_taken, most_more}
use Rattle.wf_agreement.proofs.comparing.most_taken.Goals as goal

pub loop-history-preserved : goal.loop-history-preserved
loop-history-preserved c =
    λ h are.
    let i = c.loop-history.history-index in
    let kept = c.history-item.result in
    let is = history_at c.args.histories.now h (length c.args.histories.now) i kept are c.loop-history-test.true c.loop-history-test.true c.history-item.is in
    c.larger_of-most.ensures
    ∙ most_more h i c.loop-history.most (length c.turns.result.now) (c.loop-history.invariant h are) (turns_taken kept.now.past (h i) c.turns.result.now c.turns.ensures is)
