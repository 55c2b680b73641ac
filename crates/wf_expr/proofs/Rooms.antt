-- What is left beside the nodes of an expression, by its last operator.
use Rattle.std.proofs.Common.{◌≡◌, ℕ, ◌+◌, ◌-◌, ◌<◌, Some, None, arith}
use Rattle.std.proofs.lemmas.Bool.Decides.{nat_tests}
use Rattle.wf_model.specs.declared.expr.Expr.{Expr, end_of-Expr, more_of-Expr}
use Rattle.wf_model.specs.declared.expr.Expr.TheVariants as e
use Rattle.wf_model.specs.Accepted.{nodes}
use Rattle.wf_expr.specs.Room.{room}

pub some_node : (x : Expr) → 0 < nodes x
some_node (e.Bool b) = omega arith
some_node (e.Int n) = omega arith
some_node (e.Text t) = omega arith
some_node (e.Var x) = omega arith
some_node (e.In s) = omega arith
some_node (e.Count a) = omega arith
some_node (e.Done a) = omega arith
some_node (e.Not' p (more_of-Expr x end_of-Expr)) = omega arith
some_node (e.Neg' p (more_of-Expr x end_of-Expr)) = omega arith
some_node (e.Bin' op p (more_of-Expr x end_of-Expr) q (more_of-Expr y end_of-Expr)) = omega arith

pub room_none : (most n : ℕ) → most ≡ 0 → 0 < n → room most n ≡ None
room_none most n e h = grind (arith, nat_tests)

pub room_one : (most : ℕ) → 0 < most → room most 1 ≡ Some (most - 1)
room_one most h = grind (arith, nat_tests)

pub room_more : (most n : ℕ) → 0 < most → room most (n + 1) ≡ room (most - 1) n
room_more most n h = grind (arith, nat_tests)

pub room_left : (most m n : ℕ) → 0 < most → room (most - 1) m ≡ None → room most (m + n + 1) ≡ None
room_left most m n h e = grind (arith, nat_tests)

pub room_both : (most m n r : ℕ) → 0 < most → room (most - 1) m ≡ Some r → room most (m + n + 1) ≡ room r n
room_both most m n r h e = grind (arith, nat_tests)
