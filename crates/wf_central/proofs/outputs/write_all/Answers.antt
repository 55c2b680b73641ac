use Rattle.std.proofs.Common.{sym, ◌∙◌, ap, set, arith}
use Rattle.wf_central.proofs.Writing.{outputs_more}
use Rattle.wf_central.proofs.outputs.write_all.Goals as goal

pub loop-output-preserved : goal.loop-output-preserved
loop-output-preserved c =
    c.write.ensures
    ∙ ap (λ s. set s c.output-item.result.var.0 c.output-item.result.val) c.loop-output.invariant
    ∙ sym (outputs_more c.args.outputs.now c.loop-output.output-index c.output-item.result c.args.store.now (omega arith) c.output-item.is)
