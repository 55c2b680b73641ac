-- What expressions, guards and assigned values read.
use Rattle.std.specs.Prelude.{ℕ, ◌==◌, ◌||◌, Bool, false}
use Rattle.std.specs.Option.{option_map_or}
use Rattle.std.specs.List.{list_any}
use Rattle.wf_model.specs.declared.expr.Expr.{Expr, end_of-Expr, more_of-Expr}
use Rattle.wf_model.specs.declared.expr.Expr.TheVariants as e
use Rattle.wf_model.specs.declared.chart.Action.{Action}
use Rattle.wf_model.specs.declared.chart.Action.TheVariants.{Assign, Raise, Start}
use Rattle.wf_model.specs.declared.chart.Transition.{Transition}

-- the expression asks whether state s is in
abbrev pub reads_state : ℕ → Expr → Bool
reads_state s (e.In i) = i.0 == s
reads_state s (e.Not' p (more_of-Expr x end_of-Expr)) = reads_state s x
reads_state s (e.Neg' p (more_of-Expr x end_of-Expr)) = reads_state s x
reads_state s (e.Bin' op p (more_of-Expr x end_of-Expr) q (more_of-Expr y end_of-Expr)) = reads_state s x || reads_state s y
reads_state s _ = false

-- it has variable x
abbrev pub reads_var : ℕ → Expr → Bool
reads_var x (e.Var v) = v.0 == x
reads_var x (e.Not' p (more_of-Expr y end_of-Expr)) = reads_var x y
reads_var x (e.Neg' p (more_of-Expr y end_of-Expr)) = reads_var x y
reads_var x (e.Bin' op p (more_of-Expr y end_of-Expr) q (more_of-Expr z end_of-Expr)) = reads_var x y || reads_var x z
reads_var x _ = false

-- it counts the items of activity a, or asks for a completion
abbrev pub reads_act : ℕ → Expr → Bool
reads_act a (e.Count b) = b.0 == a
reads_act a (e.Done b) = b.0 == a
reads_act a (e.Not' p (more_of-Expr x end_of-Expr)) = reads_act a x
reads_act a (e.Neg' p (more_of-Expr x end_of-Expr)) = reads_act a x
reads_act a (e.Bin' op p (more_of-Expr x end_of-Expr) q (more_of-Expr y end_of-Expr)) = reads_act a x || reads_act a y
reads_act a _ = false

-- the transition's guard reads so
abbrev pub guard_reads : (Expr → Bool) → Transition → Bool
guard_reads reads trans = option_map_or reads trans.guard false

abbrev pub action_reads : (Expr → Bool) → Action → Bool
action_reads reads (Assign x value) = reads value
action_reads reads (Raise event) = false
action_reads reads (Start act) = false

-- a value that it assigns reads so
abbrev pub values_read : (Expr → Bool) → Transition → Bool
values_read reads trans = list_any (action_reads reads) trans.actions

abbrev pub action_assigns : ℕ → Action → Bool
action_assigns x (Assign v value) = v.0 == x
action_assigns x (Raise event) = false
action_assigns x (Start act) = false

-- it assigns variable x
abbrev pub assigns : ℕ → Transition → Bool
assigns x trans = list_any (action_assigns x) trans.actions

-- its event is event n
abbrev pub is_on : ℕ → Transition → Bool
is_on n trans = option_map_or (λ event. event.0 == n) trans.event false

-- the action may raise event e; `fault`, event 0, comes where an assigned value faults
abbrev pub may_raise : ℕ → Action → Bool
may_raise e (Assign x value) = e == 0
may_raise e (Raise event) = event.0 == e
may_raise e (Start act) = false

-- the action may start activity a
abbrev pub may_start : ℕ → Action → Bool
may_start a (Assign x value) = false
may_start a (Raise event) = false
may_start a (Start act) = act.0 == a
