-- Inner. The sorts of an expression by its last operator.
use Rattle.std.specs.Prelude.{◌≡◌, ℕ, Option, refl}
use Rattle.wf_model.specs.declared.value.Sort.{Sort}
use Rattle.wf_model.specs.declared.value.Sort.TheVariants as s
use Rattle.wf_model.specs.declared.expr.Op.{Op}
use Rattle.wf_model.specs.declared.expr.Expr.{Expr}
use Rattle.wf_model.specs.declared.expr.Expr.TheVariants.{Not, Neg, Bin}
use Rattle.wf_model.specs.Steps.{◌>>=◌, both}
use Rattle.wf_model.specs.Sorts.{sort_of, takes, op_sort}

pub sort_of-Not : (vars : ℕ → Option Sort) (x : Expr) → sort_of vars (Not x) ≡ (sort_of vars x >>= takes s.Bool s.Bool)
unfolding Rattle.wf_model.specs.declared.expr.Expr.TheBlock.hidden-the_row-Expr-0 denote.Hole.Carrier.hidden
sort_of-Not vars x = refl

pub sort_of-Neg : (vars : ℕ → Option Sort) (x : Expr) → sort_of vars (Neg x) ≡ (sort_of vars x >>= takes s.Int s.Int)
unfolding Rattle.wf_model.specs.declared.expr.Expr.TheBlock.hidden-the_row-Expr-0 denote.Hole.Carrier.hidden
sort_of-Neg vars x = refl

pub sort_of-Bin : (vars : ℕ → Option Sort) (op : Op) (x y : Expr) → sort_of vars (Bin op x y) ≡ both (op_sort op) (sort_of vars x) (sort_of vars y)
unfolding Rattle.wf_model.specs.declared.expr.Expr.TheBlock.hidden-the_row-Expr-0 denote.Hole.Carrier.hidden
sort_of-Bin vars op x y = refl

-- all of them
pub ruleset sort_laws = (sort_of-Not, sort_of-Neg, sort_of-Bin)
