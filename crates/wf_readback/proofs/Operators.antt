-- The texts of an expression by its last operator.
use Rattle.std.proofs.Common.{◌≡◌, ◌&&◌, true, refl, ◌∙◌, ap}
use Rattle.wf_model.specs.declared.expr.Op.{Op}
use Rattle.wf_model.specs.declared.expr.Expr.{Expr}
use Rattle.wf_model.specs.declared.expr.Expr.TheVariants.{Not, Neg, Bin}
use Rattle.wf_model.proofs.Bools.{and_true}
use Rattle.wf_readback.specs.Held.{has_short_texts}

pub short_texts-Not : (x : Expr) → has_short_texts (Not x) ≡ has_short_texts x
unfolding Rattle.wf_model.specs.declared.expr.Expr.TheBlock.hidden-the_row-Expr-0 denote.Hole.Carrier.hidden
short_texts-Not x = refl

pub short_texts-Neg : (x : Expr) → has_short_texts (Neg x) ≡ has_short_texts x
unfolding Rattle.wf_model.specs.declared.expr.Expr.TheBlock.hidden-the_row-Expr-0 denote.Hole.Carrier.hidden
short_texts-Neg x = refl

pub short_texts-Bin : (op : Op) (x y : Expr) → has_short_texts (Bin op x y) ≡ (has_short_texts x && has_short_texts y)
unfolding Rattle.wf_model.specs.declared.expr.Expr.TheBlock.hidden-the_row-Expr-0 denote.Hole.Carrier.hidden
short_texts-Bin op x y = refl

-- all of them
pub ruleset short_texts_laws = (short_texts-Not, short_texts-Neg, short_texts-Bin)

-- two sides that have short Texts
pub both_short : (op : Op) (x y z : Expr) → z ≡ Bin op x y → has_short_texts x ≡ true → has_short_texts y ≡ true → has_short_texts z ≡ true
both_short op x y z is left right = ap has_short_texts is ∙ short_texts-Bin op x y ∙ and_true (has_short_texts x) (has_short_texts y) left right
