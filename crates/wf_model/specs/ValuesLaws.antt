-- Inner. The value of an expression by its last operator.
use Rattle.std.specs.Prelude.{◌≡◌, ℕ, Option, Result, Ok, Err, IsOk, refl}
use Rattle.wf_model.specs.declared.value.Sort.{Sort}
use Rattle.wf_model.specs.declared.value.Sort.TheVariants as s
use Rattle.wf_model.specs.Sorts.{sort_of, takes, op_sort}
use Rattle.wf_model.specs.SortsLaws.{sort_of-Not, sort_of-Neg, sort_of-Bin}
use Rattle.wf_model.specs.declared.expr.Op.{Op}
use Rattle.wf_model.specs.declared.expr.Expr.{Expr}
use Rattle.wf_model.specs.declared.expr.Expr.TheVariants.{Not, Neg, Bin}
use Rattle.wf_model.specs.Steps.{◌>>=◌, both}
use Rattle.wf_model.specs.Seen.{Seen, HasAll}
use Rattle.wf_model.specs.Values.{value_of, not_of, neg_of, binary}

pub value_of-Not : (seen : Seen) (x : Expr) → value_of seen (Not x) ≡ (value_of seen x >>= not_of)
unfolding Rattle.wf_model.specs.declared.expr.Expr.TheBlock.hidden-the_row-Expr-0 denote.Hole.Carrier.hidden
value_of-Not seen x = refl

pub value_of-Neg : (seen : Seen) (x : Expr) → value_of seen (Neg x) ≡ (value_of seen x >>= neg_of)
unfolding Rattle.wf_model.specs.declared.expr.Expr.TheBlock.hidden-the_row-Expr-0 denote.Hole.Carrier.hidden
value_of-Neg seen x = refl

pub value_of-Bin : (seen : Seen) (op : Op) (x y : Expr) → value_of seen (Bin op x y) ≡ binary op (value_of seen x) (value_of seen y)
unfolding Rattle.wf_model.specs.declared.expr.Expr.TheBlock.hidden-the_row-Expr-0 denote.Hole.Carrier.hidden
value_of-Bin seen op x y = refl

-- what a larger expression has, its operands have

pub HasAll-Not : (seen : Seen) (x : Expr) → HasAll seen (Not x) → HasAll seen x
unfolding Rattle.wf_model.specs.declared.expr.Expr.TheBlock.hidden-the_row-Expr-0 denote.Hole.Carrier.hidden
HasAll-Not seen x h = h

pub HasAll-Neg : (seen : Seen) (x : Expr) → HasAll seen (Neg x) → HasAll seen x
unfolding Rattle.wf_model.specs.declared.expr.Expr.TheBlock.hidden-the_row-Expr-0 denote.Hole.Carrier.hidden
HasAll-Neg seen x h = h

pub HasAll-Bin : (seen : Seen) (op : Op) (x y : Expr) → HasAll seen (Bin op x y) → HasAll seen x × HasAll seen y
unfolding Rattle.wf_model.specs.declared.expr.Expr.TheBlock.hidden-the_row-Expr-0 denote.Hole.Carrier.hidden
HasAll-Bin seen op x y h = h

-- both operands of what succeeds succeed
pub both_left : {A B C E : Type 0} (g : A → B → Result C E) (r : Result A E) (s : Result B E) → IsOk (both g r s) → IsOk r
both_left g (Ok x) s h = refl
both_left g (Err d) s h = h

pub both_right : {A B C E : Type 0} (g : A → B → Result C E) (r : Result A E) (s : Result B E) → IsOk (both g r s) → IsOk s
both_right g (Ok x) (Ok y) h = refl
both_right g (Ok x) (Err d) h = h
both_right g (Err d) (Ok y) h = refl
both_right g (Err d) (Err f) h = h

pub bind_first : {A B E : Type 0} (r : Result A E) (g : A → Result B E) → IsOk (r >>= g) → IsOk r
bind_first (Ok x) g h = refl
bind_first (Err d) g h = h

-- so an operand of what has a sort has one
pub typed-Not : (vars : ℕ → Option Sort) (x : Expr) → IsOk (sort_of vars (Not x)) → IsOk (sort_of vars x)
typed-Not vars x h = bind_first (sort_of vars x) (takes s.Bool s.Bool) (rw sort_of-Not at h)

pub typed-Neg : (vars : ℕ → Option Sort) (x : Expr) → IsOk (sort_of vars (Neg x)) → IsOk (sort_of vars x)
typed-Neg vars x h = bind_first (sort_of vars x) (takes s.Int s.Int) (rw sort_of-Neg at h)

pub typed-Bin : (vars : ℕ → Option Sort) (op : Op) (x y : Expr) → IsOk (sort_of vars (Bin op x y)) → IsOk (sort_of vars x) × IsOk (sort_of vars y)
typed-Bin vars op x y h =
    let g : IsOk (both (op_sort op) (sort_of vars x) (sort_of vars y)) = rw sort_of-Bin at h in
    (both_left (op_sort op) (sort_of vars x) (sort_of vars y) g, both_right (op_sort op) (sort_of vars x) (sort_of vars y) g)

-- all three values
pub ruleset value_laws = (value_of-Not, value_of-Neg, value_of-Bin)

-- what an operand has, of an expression that has a sort, and all of whose numbers a snapshot has
pub ruleset operand_laws = (typed-Not, typed-Neg, typed-Bin, HasAll-Not, HasAll-Neg, HasAll-Bin)
