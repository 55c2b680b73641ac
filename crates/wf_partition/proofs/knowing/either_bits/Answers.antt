use Rattle.std.proofs.Common.{◌∙◌, ◌||◌, get_or, false}
use Rattle.wf_model.proofs.Rows.{row_more}
use Rattle.wf_partition.proofs.knowing.either_bits.Goals as goal

pub loop-k-preserved : goal.loop-k-preserved
loop-k-preserved c =
    c.in_ok-push.ensures.ok
    ∙ row_more (λ k. get_or c.args.one.now k false || get_or c.args.other.now k false) c.loop-k.k c.loop-k.bits c.is_either.result c.loop-k.invariant c.is_either.ensures
