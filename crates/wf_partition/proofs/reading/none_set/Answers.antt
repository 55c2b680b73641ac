use Rattle.std.proofs.Common.{◌∙◌, false, refl}
use Rattle.wf_model.proofs.Rows.{row_more}
use Rattle.wf_partition.proofs.reading.none_set.Goals as goal

pub loop-k-preserved : goal.loop-k-preserved
loop-k-preserved c = c.in_ok-push.ensures.ok ∙ row_more (λ k. false) c.loop-k._k c.loop-k.bits false c.loop-k.invariant refl
