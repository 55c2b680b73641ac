-- The value of an expression in a snapshot, or its fault.
use Rattle.std.specs.Prelude.{zero, ◌^◌, Bool, true, false, not, ℤ, pos, negsuc, ◌+ℤ◌, ◌-ℤ◌, ◌*ℤ◌, neg_ℤ, int_div, int_rem, int_lt, int_le, Result, Ok, Err, nat_lt, nat_eq, if◌then◌else◌, unwrap_or}
use Rattle.std.specs.Ordering.{int_eq}
use Rattle.std.specs.Cmp.Lexicographic.{pointwise}
use Rattle.wf_model.specs.declared.value.Val.{Val}
use Rattle.wf_model.specs.declared.value.Val.TheVariants as v
use Rattle.wf_model.specs.declared.expr.Op.{Op}
use Rattle.wf_model.specs.declared.expr.Op.TheVariants as o
use Rattle.wf_model.specs.declared.expr.Fault.{Fault}
use Rattle.wf_model.specs.declared.expr.Fault.TheVariants as f
use Rattle.wf_model.specs.declared.expr.Expr.{Expr, end_of-Expr, more_of-Expr}
use Rattle.wf_model.specs.declared.expr.Expr.TheVariants as e
use Rattle.wf_model.specs.Steps.{◌>>=◌}
use Rattle.wf_model.specs.Seen.{Seen}

-- what may come of an expression
abbrev pub Outcome : Type 0
Outcome = Result Val Fault

abbrev pub fits_i64 : ℤ → Bool
fits_i64 (pos n) = nat_lt n (2 ^ 63)
fits_i64 (negsuc n) = nat_lt n (2 ^ 63)

abbrev pub int : ℤ → Outcome
int z = if fits_i64 z then Ok (v.Int z) else Err f.Overflow

abbrev pub truth : Bool → Outcome
truth b = Ok (v.Bool b)

abbrev pub is_zero : ℤ → Bool
is_zero (pos zero) = true
is_zero _ = false

-- towards zero
abbrev pub quotient : ℤ → ℤ → Outcome
quotient m n = if is_zero n then Err f.ZeroDivisor else int (int_div m n)

-- with the sign of the dividend; where the quotient overflows, so does this
abbrev pub remainder : ℤ → ℤ → Outcome
remainder m n = if is_zero n then Err f.ZeroDivisor else (int (int_div m n) >>= λ _. Ok (v.Int (int_rem m n)))

-- Below, an operand of a sort that the operator doesn't take is the value itself: no expression that has a sort meets this.

abbrev pub on_ints : (ℤ → ℤ → Outcome) → Val → Val → Outcome
on_ints g (v.Int m) (v.Int n) = g m n
on_ints g x y = Ok y

abbrev pub is_equal : Val → Val → Bool
is_equal (v.Bool false) (v.Bool b) = not b
is_equal (v.Bool true) (v.Bool b) = b
is_equal (v.Int m) (v.Int n) = int_eq m n
is_equal (v.Text s) (v.Text t) = pointwise nat_eq s t
is_equal x y = false

-- an operator on the values of both sides
unfoldable pub on_two : Op → Val → Val → Outcome
on_two o.Eq x y = truth (is_equal x y)
on_two o.Ne x y = truth (not (is_equal x y))
on_two o.Lt x y = on_ints (λ m n. truth (int_lt m n)) x y
on_two o.Le x y = on_ints (λ m n. truth (int_le m n)) x y
on_two o.Gt x y = on_ints (λ m n. truth (int_lt n m)) x y
on_two o.Ge x y = on_ints (λ m n. truth (int_le n m)) x y
on_two o.Add x y = on_ints (λ m n. int (m +ℤ n)) x y
on_two o.Sub x y = on_ints (λ m n. int (m -ℤ n)) x y
on_two o.Mul x y = on_ints (λ m n. int (m *ℤ n)) x y
on_two o.Div x y = on_ints quotient x y
on_two o.Rem x y = on_ints remainder x y
on_two _ x y = Ok y

-- `and` is false, `or` true, by the left side alone
abbrev pub decides : Op → Val → Bool
decides o.And (v.Bool b) = not b
decides o.Or (v.Bool b) = b
decides _ _ = false

-- the left side's fault first, and the right side only where it is needed
abbrev pub binary : Op → Outcome → Outcome → Outcome
binary op (Err d) right = Err d
binary op (Ok left) right = if decides op left then Ok left else (right >>= on_two op left)

abbrev pub not_of : Val → Outcome
not_of (v.Bool b) = truth (not b)
not_of x = Ok x

abbrev pub neg_of : Val → Outcome
neg_of (v.Int z) = int (neg_ℤ z)
neg_of x = Ok x

-- A number that the snapshot hasn't counts as 0 or false: a snapshot that has all that is named meets neither.
abbrev pub value_of : Seen → Expr → Outcome
value_of seen (e.Bool b) = truth b
value_of seen (e.Int n) = Ok (v.Int (pos n))
value_of seen (e.Text t) = Ok (v.Text t)
value_of seen (e.Var x) = Ok (unwrap_or (seen.var x.0) (v.Bool false))
value_of seen (e.In i) = truth (unwrap_or (seen.state i.0) false)
value_of seen (e.Count a) = Ok (v.Int (pos (unwrap_or (seen.count a.0) 0)))
value_of seen (e.Done a) = truth (unwrap_or (seen.done a.0) false)
value_of seen (e.Not' p (more_of-Expr x end_of-Expr)) = value_of seen x >>= not_of
value_of seen (e.Neg' p (more_of-Expr x end_of-Expr)) = value_of seen x >>= neg_of
value_of seen (e.Bin' op p (more_of-Expr x end_of-Expr) q (more_of-Expr y end_of-Expr)) = binary op (value_of seen x) (value_of seen y)
