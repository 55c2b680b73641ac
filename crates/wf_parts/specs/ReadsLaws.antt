-- Inner. What an expression reads, by its last operator.
use Rattle.std.specs.Prelude.{◌≡◌, ◌||◌, ℕ, refl}
use Rattle.wf_model.specs.declared.expr.Op.{Op}
use Rattle.wf_model.specs.declared.expr.Expr.{Expr}
use Rattle.wf_model.specs.declared.expr.Expr.TheVariants.{Not, Neg, Bin}
use Rattle.wf_parts.specs.Reads.{reads_state, reads_var, reads_act}

pub reads_state-Not : (s : ℕ) (x : Expr) → reads_state s (Not x) ≡ reads_state s x
unfolding Rattle.wf_model.specs.declared.expr.Expr.TheBlock.hidden-the_row-Expr-0 denote.Hole.Carrier.hidden
reads_state-Not s x = refl

pub reads_state-Neg : (s : ℕ) (x : Expr) → reads_state s (Neg x) ≡ reads_state s x
unfolding Rattle.wf_model.specs.declared.expr.Expr.TheBlock.hidden-the_row-Expr-0 denote.Hole.Carrier.hidden
reads_state-Neg s x = refl

pub reads_state-Bin : (s : ℕ) (op : Op) (x y : Expr) → reads_state s (Bin op x y) ≡ (reads_state s x || reads_state s y)
unfolding Rattle.wf_model.specs.declared.expr.Expr.TheBlock.hidden-the_row-Expr-0 denote.Hole.Carrier.hidden
reads_state-Bin s op x y = refl

-- which states, by all three
pub ruleset state_laws = (reads_state-Not, reads_state-Neg, reads_state-Bin)

pub reads_var-Not : (v : ℕ) (x : Expr) → reads_var v (Not x) ≡ reads_var v x
unfolding Rattle.wf_model.specs.declared.expr.Expr.TheBlock.hidden-the_row-Expr-0 denote.Hole.Carrier.hidden
reads_var-Not v x = refl

pub reads_var-Neg : (v : ℕ) (x : Expr) → reads_var v (Neg x) ≡ reads_var v x
unfolding Rattle.wf_model.specs.declared.expr.Expr.TheBlock.hidden-the_row-Expr-0 denote.Hole.Carrier.hidden
reads_var-Neg v x = refl

pub reads_var-Bin : (v : ℕ) (op : Op) (x y : Expr) → reads_var v (Bin op x y) ≡ (reads_var v x || reads_var v y)
unfolding Rattle.wf_model.specs.declared.expr.Expr.TheBlock.hidden-the_row-Expr-0 denote.Hole.Carrier.hidden
reads_var-Bin v op x y = refl

-- which variables, by all three
pub ruleset var_laws = (reads_var-Not, reads_var-Neg, reads_var-Bin)

pub reads_act-Not : (a : ℕ) (x : Expr) → reads_act a (Not x) ≡ reads_act a x
unfolding Rattle.wf_model.specs.declared.expr.Expr.TheBlock.hidden-the_row-Expr-0 denote.Hole.Carrier.hidden
reads_act-Not a x = refl

pub reads_act-Neg : (a : ℕ) (x : Expr) → reads_act a (Neg x) ≡ reads_act a x
unfolding Rattle.wf_model.specs.declared.expr.Expr.TheBlock.hidden-the_row-Expr-0 denote.Hole.Carrier.hidden
reads_act-Neg a x = refl

pub reads_act-Bin : (a : ℕ) (op : Op) (x y : Expr) → reads_act a (Bin op x y) ≡ (reads_act a x || reads_act a y)
unfolding Rattle.wf_model.specs.declared.expr.Expr.TheBlock.hidden-the_row-Expr-0 denote.Hole.Carrier.hidden
reads_act-Bin a op x y = refl

-- which activities, by all three
pub ruleset act_laws = (reads_act-Not, reads_act-Neg, reads_act-Bin)
