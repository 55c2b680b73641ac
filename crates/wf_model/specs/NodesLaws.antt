-- Inner. Sizes and numbers of an expression by its last operator.
use Rattle.std.specs.Prelude.{◌≡◌, ◌+◌, ◌&&◌, refl}
use Rattle.wf_model.specs.declared.chart.Chart.{Chart}
use Rattle.wf_model.specs.declared.expr.Op.{Op}
use Rattle.wf_model.specs.declared.expr.Expr.{Expr}
use Rattle.wf_model.specs.declared.expr.Expr.TheVariants.{Not, Neg, Bin}
use Rattle.wf_model.specs.Accepted.{nodes, is_known_expr}

pub nodes-Not : (x : Expr) → nodes (Not x) ≡ nodes x + 1
unfolding Rattle.wf_model.specs.declared.expr.Expr.TheBlock.hidden-the_row-Expr-0 denote.Hole.Carrier.hidden
nodes-Not x = refl

pub nodes-Neg : (x : Expr) → nodes (Neg x) ≡ nodes x + 1
unfolding Rattle.wf_model.specs.declared.expr.Expr.TheBlock.hidden-the_row-Expr-0 denote.Hole.Carrier.hidden
nodes-Neg x = refl

pub nodes-Bin : (op : Op) (x y : Expr) → nodes (Bin op x y) ≡ nodes x + nodes y + 1
unfolding Rattle.wf_model.specs.declared.expr.Expr.TheBlock.hidden-the_row-Expr-0 denote.Hole.Carrier.hidden
nodes-Bin op x y = refl

-- how many nodes, by all three
pub ruleset node_laws = (nodes-Not, nodes-Neg, nodes-Bin)

pub known-Not : (c : Chart) (x : Expr) → is_known_expr c (Not x) ≡ is_known_expr c x
unfolding Rattle.wf_model.specs.declared.expr.Expr.TheBlock.hidden-the_row-Expr-0 denote.Hole.Carrier.hidden
known-Not c x = refl

pub known-Neg : (c : Chart) (x : Expr) → is_known_expr c (Neg x) ≡ is_known_expr c x
unfolding Rattle.wf_model.specs.declared.expr.Expr.TheBlock.hidden-the_row-Expr-0 denote.Hole.Carrier.hidden
known-Neg c x = refl

pub known-Bin : (c : Chart) (op : Op) (x y : Expr) → is_known_expr c (Bin op x y) ≡ (is_known_expr c x && is_known_expr c y)
unfolding Rattle.wf_model.specs.declared.expr.Expr.TheBlock.hidden-the_row-Expr-0 denote.Hole.Carrier.hidden
known-Bin c op x y = refl

-- whether numbers are known, by all three
pub ruleset known_laws = (known-Not, known-Neg, known-Bin)
