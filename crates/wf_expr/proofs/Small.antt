-- An expression that has a sort has small integers.
use Rattle.std.proofs.Common.{◌≡◌, ◌^◌, ℕ, Bool, true, false, cond, Option, Ok, Err, refl}
use Rattle.std.specs.Prelude.{nat_lt, IsOk, IsTrue, Result}
use Rattle.wf_model.specs.declared.value.Sort.{Sort}
use Rattle.wf_model.specs.declared.value.Sort.TheVariants as s
use Rattle.wf_model.specs.declared.expr.Expr.{Expr, end_of-Expr, more_of-Expr}
use Rattle.wf_model.specs.declared.expr.Expr.TheVariants as e
use Rattle.wf_model.specs.declared.expr.TypeFault.{TypeFault}
use Rattle.wf_model.specs.declared.expr.TypeFault.TheVariants.{Mismatch}
use Rattle.wf_model.specs.Sorts.{sort_of, takes, op_sort}
use Rattle.wf_model.specs.ValuesLaws.{both_left, both_right, bind_first}
use Rattle.wf_model.proofs.Bools.{and_true}
use Rattle.wf_expr.specs.Ints.{has_small_ints}

small_int : (b : Bool) → (let r : Result Sort TypeFault = cond b (Ok s.Int) (Err Mismatch) in IsOk r) → b ≡ true
small_int true h = refl
small_int false h = cc

pub sorted_is_small : (vars : ℕ → Option Sort) (x : Expr) → IsOk (sort_of vars x) → has_small_ints x ≡ true
sorted_is_small vars (e.Bool b) h = refl
sorted_is_small vars (e.Int n) h = small_int (nat_lt n (2 ^ 63)) h
sorted_is_small vars (e.Text t) h = refl
sorted_is_small vars (e.Var x) h = refl
sorted_is_small vars (e.In i) h = refl
sorted_is_small vars (e.Count a) h = refl
sorted_is_small vars (e.Done a) h = refl
sorted_is_small vars (e.Not' p (more_of-Expr x end_of-Expr)) h = sorted_is_small vars x (bind_first (sort_of vars x) (takes s.Bool s.Bool) h)
sorted_is_small vars (e.Neg' p (more_of-Expr x end_of-Expr)) h = sorted_is_small vars x (bind_first (sort_of vars x) (takes s.Int s.Int) h)
sorted_is_small vars (e.Bin' op p (more_of-Expr x end_of-Expr) q (more_of-Expr y end_of-Expr)) h =
    and_true (has_small_ints x) (has_small_ints y)
    (sorted_is_small vars x (both_left (op_sort op) (sort_of vars x) (sort_of vars y) h))
    (sorted_is_small vars y (both_right (op_sort op) (sort_of vars x) (sort_of vars y) h))
