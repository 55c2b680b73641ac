-- Of other calls. The integers of an expression.
use Rattle.std.specs.Prelude.{◌≡◌, ◌^◌, ◌&&◌, Bool, true, nat_lt, refl}
use Rattle.wf_model.specs.declared.expr.Op.{Op}
use Rattle.wf_model.specs.declared.expr.Expr.{Expr, end_of-Expr, more_of-Expr}
use Rattle.wf_model.specs.declared.expr.Expr.TheVariants as e
use Rattle.wf_model.specs.declared.expr.Expr.TheVariants.{Not, Neg, Bin}

-- each is one that a value can hold
abbrev pub has_small_ints : Expr → Bool
has_small_ints (e.Int n) = nat_lt n (2 ^ 63)
has_small_ints (e.Not' p (more_of-Expr x end_of-Expr)) = has_small_ints x
has_small_ints (e.Neg' p (more_of-Expr x end_of-Expr)) = has_small_ints x
has_small_ints (e.Bin' op p (more_of-Expr x end_of-Expr) q (more_of-Expr y end_of-Expr)) = has_small_ints x && has_small_ints y
has_small_ints _ = true

pub small-Not : (x : Expr) → has_small_ints (Not x) ≡ has_small_ints x
unfolding Rattle.wf_model.specs.declared.expr.Expr.TheBlock.hidden-the_row-Expr-0 denote.Hole.Carrier.hidden
small-Not x = refl

pub small-Neg : (x : Expr) → has_small_ints (Neg x) ≡ has_small_ints x
unfolding Rattle.wf_model.specs.declared.expr.Expr.TheBlock.hidden-the_row-Expr-0 denote.Hole.Carrier.hidden
small-Neg x = refl

pub small-Bin : (op : Op) (x y : Expr) → has_small_ints (Bin op x y) ≡ (has_small_ints x && has_small_ints y)
unfolding Rattle.wf_model.specs.declared.expr.Expr.TheBlock.hidden-the_row-Expr-0 denote.Hole.Carrier.hidden
small-Bin op x y = refl

-- by all three
pub ruleset small_laws = (small-Not, small-Neg, small-Bin)
