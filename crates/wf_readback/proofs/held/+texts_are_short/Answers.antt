use Rattle.std.proofs.Common.{◌∙◌, ap₂, sym}
use Rattle.wf_model.specs.declared.expr.Expr.TheVariants.{Bin}
use Rattle.wf_readback.proofs.Operators.{both_short}
use Rattle.wf_readback.proofs.held.+texts_are_short.Goals as goal

pub returns-in-Bin : goal.returns-in-Bin
returns-in-Bin t c =
    both_short c.in-Bin.field-0 c.get.result.now c.get-in-Bin.result.now c.args.expr.now
    (c.in-Bin.is ∙ ap₂ (λ x y. Bin c.in-Bin.field-0 x y) (sym c.get.ensures) (sym c.get-in-Bin.ensures))
    c.texts_are_short.ensures c.texts_are_short-in-Bin.ensures
