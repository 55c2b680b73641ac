-- The value of an expression has the expression's sort.
use Rattle.std.proofs.Common.{◌≡◌, IsOk, IfOk, Bool, true, Result, Ok, Err, refl, sym, ap, arith, ℤ}
use Rattle.wf_model.specs.declared.value.Sort.{Sort}
use Rattle.wf_model.specs.declared.value.Sort.TheVariants as s
use Rattle.wf_model.specs.declared.value.Val.{Val}
use Rattle.wf_model.specs.declared.value.Val.TheVariants as v
use Rattle.wf_model.specs.declared.expr.Op.{Op}
use Rattle.wf_model.specs.declared.expr.Fault.{Fault}
use Rattle.wf_model.specs.declared.expr.TypeFault.{TypeFault}
use Rattle.wf_model.specs.declared.expr.Expr.{Expr, end_of-Expr, more_of-Expr}
use Rattle.wf_model.specs.declared.expr.Expr.TheVariants as e
use Rattle.wf_model.specs.declared.expr.Expr.TheVariants.{Not}
use Rattle.wf_model.specs.SortsLaws.{sort_of-Not}
use Rattle.wf_model.specs.Steps.{◌>>=◌, both}
use Rattle.wf_model.specs.Sorts.{sort_of, takes, op_sort}
use Rattle.wf_model.specs.Seen.{Seen, val_sort, var_sorts}
use Rattle.wf_model.specs.Values.{value_of, binary, on_two, decides, not_of, neg_of, int, quotient, remainder}

-- a number or a fault is of sort int
int_sort : (z : ℤ) (val : Val) → int z ≡ Ok val → val_sort val ≡ s.Int
int_sort z val h = grind arith

quotient_sort : (m n : ℤ) (val : Val) → quotient m n ≡ Ok val → val_sort val ≡ s.Int
quotient_sort m n val h = grind arith

remainder_sort : (m n : ℤ) (val : Val) → remainder m n ≡ Ok val → val_sort val ≡ s.Int
remainder_sort m n val h = grind arith

on_two_sort : (op : Op) (l r val : Val) (t : Sort) → op_sort op (val_sort l) (val_sort r) ≡ Ok t → on_two op l r ≡ Ok val → val_sort val ≡ t
unfolding op_sort on_two
on_two_sort op l r val t h g = grind (arith, int_sort, quotient_sort, remainder_sort)

decides_sort : (op : Op) (l : Val) (b t : Sort) → op_sort op (val_sort l) b ≡ Ok t → decides op l ≡ true → val_sort l ≡ t
unfolding op_sort
decides_sort op l b t h g = grind arith

-- both sides have values
both_sort : (op : Op) (a b t : Sort) (l r val : Val) → val_sort l ≡ a → val_sort r ≡ b → op_sort op a b ≡ Ok t → binary op (Ok l) (Ok r) ≡ Ok val → val_sort val ≡ t
both_sort op a b t l r val p q h g = grind (arith, decides_sort, on_two_sort)

-- the left side decides
left_sort : (op : Op) (a b t : Sort) (l val : Val) (d : Fault) → val_sort l ≡ a → op_sort op a b ≡ Ok t → binary op (Ok l) (Err d) ≡ Ok val → val_sort val ≡ t
left_sort op a b t l val d p h g = grind (arith, decides_sort)

-- the sort of what a binary node gives, where its operands have the sorts that they should
binary_sort : (op : Op) (p q : Result Sort TypeFault) (x y : Result Val Fault) (t : Sort) (val : Val)
    → ((a : Sort) (u : Val) → p ≡ Ok a → x ≡ Ok u → val_sort u ≡ a) → ((b : Sort) (u : Val) → q ≡ Ok b → y ≡ Ok u → val_sort u ≡ b)
    → both (op_sort op) p q ≡ Ok t → binary op x y ≡ Ok val → val_sort val ≡ t
binary_sort op (Ok a) (Ok b) (Ok l) (Ok r) t val left right h g = both_sort op a b t l r val (left a l refl refl) (right b r refl refl) h g
binary_sort op (Ok a) (Ok b) (Ok l) (Err d) t val left right h g = left_sort op a b t l val d (left a l refl refl) h g
binary_sort op (Ok a) (Ok b) (Err d) y t val left right h g = cc
binary_sort op (Ok a) (Err d) x y t val left right h g = cc
binary_sort op (Err d) q x y t val left right h g = cc

not_sort : (p : Result Sort TypeFault) (x : Result Val Fault) (t : Sort) (val : Val)
    → ((a : Sort) (u : Val) → p ≡ Ok a → x ≡ Ok u → val_sort u ≡ a) → (p >>= takes s.Bool s.Bool) ≡ Ok t → (x >>= not_of) ≡ Ok val → val_sort val ≡ t
not_sort p x t val sound h g = grind (arith, sound)

neg_sort : (p : Result Sort TypeFault) (x : Result Val Fault) (t : Sort) (val : Val)
    → ((a : Sort) (u : Val) → p ≡ Ok a → x ≡ Ok u → val_sort u ≡ a) → (p >>= takes s.Int s.Int) ≡ Ok t → (x >>= neg_of) ≡ Ok val → val_sort val ≡ t
neg_sort p x t val sound h g = grind (arith, sound, int_sort)

pub value_sort : (seen : Seen) (x : Expr) (t : Sort) (val : Val) → sort_of (var_sorts seen) x ≡ Ok t → value_of seen x ≡ Ok val → val_sort val ≡ t
value_sort seen (e.Bool b) t val h g = grind arith
value_sort seen (e.Int n) t val h g = grind arith
value_sort seen (e.Text x) t val h g = grind arith
value_sort seen (e.Var x) t val h g = grind arith
value_sort seen (e.In i) t val h g = grind arith
value_sort seen (e.Count a) t val h g = grind arith
value_sort seen (e.Done a) t val h g = grind arith
value_sort seen (e.Not' p (more_of-Expr x end_of-Expr)) t val h g = not_sort (sort_of (var_sorts seen) x) (value_of seen x) t val (value_sort seen x) h g
value_sort seen (e.Neg' p (more_of-Expr x end_of-Expr)) t val h g = neg_sort (sort_of (var_sorts seen) x) (value_of seen x) t val (value_sort seen x) h g
value_sort seen (e.Bin' op p (more_of-Expr x end_of-Expr) q (more_of-Expr y end_of-Expr)) t val h g =
    binary_sort op (sort_of (var_sorts seen) x) (sort_of (var_sorts seen) y) (value_of seen x) (value_of seen y) t val (value_sort seen x) (value_sort seen y) h g

-- what has a sort has values of that sort
pub value_sort_is : (seen : Seen) (x : Expr) (r : Result Val Fault) → IsOk (sort_of (var_sorts seen) x) → r ≡ value_of seen x → IfOk r (λ val. sort_of (var_sorts seen) x ≡ Ok (val_sort val))
value_sort_is seen x (Err d) typed same = tt
value_sort_is seen x (Ok val) typed same = typed_at (sort_of (var_sorts seen) x) val typed (λ t h. value_sort seen x t val h (sym same))
  where
    typed_at : (r : Result Sort TypeFault) (val : Val) → IsOk r → ((t : Sort) → r ≡ Ok t → val_sort val ≡ t) → r ≡ Ok (val_sort val)
    typed_at (Ok t) val typed sound = ap Ok (sym (sound t refl))
    typed_at (Err d) val typed sound = cc

bool_of : (w : Val) → val_sort w ≡ s.Bool → (b : Bool) × (w ≡ v.Bool b)
bool_of (v.Bool b) h = (b, refl)
bool_of (v.Int z) h = cc
bool_of (v.Text t) h = cc

takes_bool : (r : Result Sort TypeFault) → IsOk (r >>= takes s.Bool s.Bool) → r ≡ Ok s.Bool
takes_bool (Ok s.Bool) h = refl
takes_bool (Ok s.Int) h = cc
takes_bool (Ok s.Text) h = cc
takes_bool (Err d) h = cc

-- the operand of a `not` is a bool
pub not_takes_bool : (seen : Seen) (x : Expr) (w : Val) → IsOk (sort_of (var_sorts seen) (Not x)) → value_of seen x ≡ Ok w → (b : Bool) × (w ≡ v.Bool b)
not_takes_bool seen x w typed was = bool_of w (value_sort seen x s.Bool w (takes_bool (sort_of (var_sorts seen) x) (rw sort_of-Not at typed)) was)
