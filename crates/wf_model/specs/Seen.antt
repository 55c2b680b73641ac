-- What an expression reads: a snapshot by numbers, `None` where it has no such number.
use Rattle.std.specs.Prelude.{ℕ, Bool, Option, Some, None, IsSome}
use Rattle.wf_model.specs.declared.value.Val.{Val}
use Rattle.wf_model.specs.declared.value.Val.TheVariants as v
use Rattle.wf_model.specs.declared.value.Sort.{Sort}
use Rattle.wf_model.specs.declared.value.Sort.TheVariants as s
use Rattle.wf_model.specs.declared.expr.Expr.{Expr, end_of-Expr, more_of-Expr}
use Rattle.wf_model.specs.declared.expr.Expr.TheVariants as e

pub record Seen : Type 0 where
  -- whether the state is in
  pub state : ℕ → Option Bool
  pub var : ℕ → Option Val
  -- how many items of the activity are open
  pub count : ℕ → Option ℕ
  -- whether an item of the activity is completed now
  pub done : ℕ → Option Bool

abbrev pub val_sort : Val → Sort
val_sort (v.Bool b) = s.Bool
val_sort (v.Int z) = s.Int
val_sort (v.Text t) = s.Text

abbrev pub option_sort : Option Val → Option Sort
option_sort None = None
option_sort (Some val) = Some (val_sort val)

-- the sorts of the variables' values
abbrev pub var_sorts : Seen → ℕ → Option Sort
var_sorts seen x = option_sort (seen.var x)

-- the snapshot has all that the expression names
abbrev pub HasAll : Seen → Expr → Type 0
HasAll seen (e.Bool b) = Unit {0}
HasAll seen (e.Int n) = Unit {0}
HasAll seen (e.Text t) = Unit {0}
HasAll seen (e.Var x) = IsSome (seen.var x.0)
HasAll seen (e.In i) = IsSome (seen.state i.0)
HasAll seen (e.Count a) = IsSome (seen.count a.0)
HasAll seen (e.Done a) = IsSome (seen.done a.0)
HasAll seen (e.Not' p (more_of-Expr x end_of-Expr)) = HasAll seen x
HasAll seen (e.Neg' p (more_of-Expr x end_of-Expr)) = HasAll seen x
HasAll seen (e.Bin' op p (more_of-Expr x end_of-Expr) q (more_of-Expr y end_of-Expr)) = HasAll seen x × HasAll seen y
