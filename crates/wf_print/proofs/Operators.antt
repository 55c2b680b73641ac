-- The text of an expression by its last operator.
use Rattle.std.proofs.Common.{◌≡◌, ◌++◌, refl}
use lib.Chars.{codes}
use Rattle.wf_model.specs.declared.chart.Chart.{Chart}
use Rattle.wf_model.specs.declared.expr.Op.{Op}
use Rattle.wf_model.specs.declared.expr.Expr.{Expr}
use Rattle.wf_model.specs.declared.expr.Expr.TheVariants.{Not, Neg, Bin}
use Rattle.wf_print.specs.Words.{op_word}
use Rattle.wf_print.specs.Expressions.{expr_text}

pub expr_text-Not : (chart : Chart) (x : Expr) → expr_text chart (Not x) ≡ codes "(not " ++ expr_text chart x ++ codes ")"
unfolding Rattle.wf_model.specs.declared.expr.Expr.TheBlock.hidden-the_row-Expr-0 denote.Hole.Carrier.hidden
expr_text-Not chart x = refl

pub expr_text-Neg : (chart : Chart) (x : Expr) → expr_text chart (Neg x) ≡ codes "(- " ++ expr_text chart x ++ codes ")"
unfolding Rattle.wf_model.specs.declared.expr.Expr.TheBlock.hidden-the_row-Expr-0 denote.Hole.Carrier.hidden
expr_text-Neg chart x = refl

pub expr_text-Bin : (chart : Chart) (op : Op) (x y : Expr) → expr_text chart (Bin op x y) ≡ codes "(" ++ expr_text chart x ++ op_word op ++ expr_text chart y ++ codes ")"
unfolding Rattle.wf_model.specs.declared.expr.Expr.TheBlock.hidden-the_row-Expr-0 denote.Hole.Carrier.hidden
expr_text-Bin chart op x y = refl

-- all of them
pub ruleset operator_texts = (expr_text-Not, expr_text-Neg, expr_text-Bin)
