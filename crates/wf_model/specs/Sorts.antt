-- The sorts of expressions: which operands an operator takes, and what it gives.
use Rattle.std.specs.Prelude.{ℕ, ◌^◌, Bool, true, false, Option, Result, Ok, Err, nat_lt, if◌then◌else◌, slice_get}
use Rattle.std.specs.Option.{option_map, ok_or}
use Rattle.wf_model.specs.declared.chart.Chart.{Chart}
use Rattle.wf_model.specs.declared.expr.TypeFault.{TypeFault}
use Rattle.wf_model.specs.declared.expr.TypeFault.TheVariants.{Mismatch}
use Rattle.wf_model.specs.declared.value.Sort.{Sort}
use Rattle.wf_model.specs.declared.value.Sort.TheVariants as s
use Rattle.wf_model.specs.declared.expr.Op.{Op}
use Rattle.wf_model.specs.declared.expr.Op.TheVariants as o
use Rattle.wf_model.specs.declared.expr.Expr.{Expr, end_of-Expr, more_of-Expr}
use Rattle.wf_model.specs.declared.expr.Expr.TheVariants as e
use Rattle.wf_model.specs.Steps.{◌>>=◌, both}

-- the two sorts are one
abbrev pub alike : Sort → Sort → Bool
alike s.Bool s.Bool = true
alike s.Int s.Int = true
alike s.Text s.Text = true
alike _ _ = false

-- an operand of the first sort gives the second
abbrev pub takes : Sort → Sort → Sort → Result Sort TypeFault
takes wants gives sort = if alike wants sort then Ok gives else Err Mismatch

-- two operands of the first sort give the second
abbrev pub takes_two : Sort → Sort → Sort → Sort → Result Sort TypeFault
takes_two wants gives left right = if alike wants left then takes wants gives right else Err Mismatch

unfoldable pub op_sort : Op → Sort → Sort → Result Sort TypeFault
op_sort o.Or left right = takes_two s.Bool s.Bool left right
op_sort o.And left right = takes_two s.Bool s.Bool left right
op_sort o.Eq left right = takes left s.Bool right
op_sort o.Ne left right = takes left s.Bool right
op_sort o.Lt left right = takes_two s.Int s.Bool left right
op_sort o.Le left right = takes_two s.Int s.Bool left right
op_sort o.Gt left right = takes_two s.Int s.Bool left right
op_sort o.Ge left right = takes_two s.Int s.Bool left right
op_sort o.Add left right = takes_two s.Int s.Int left right
op_sort o.Sub left right = takes_two s.Int s.Int left right
op_sort o.Mul left right = takes_two s.Int s.Int left right
op_sort o.Div left right = takes_two s.Int s.Int left right
op_sort o.Rem left right = takes_two s.Int s.Int left right

-- the sort of an expression over variables of these sorts, or `Mismatch` where the rules give none
abbrev pub sort_of : (ℕ → Option Sort) → Expr → Result Sort TypeFault
sort_of vars (e.Bool b) = Ok s.Bool
sort_of vars (e.Int n) = if nat_lt n (2 ^ 63) then Ok s.Int else Err Mismatch
sort_of vars (e.Text t) = Ok s.Text
sort_of vars (e.Var v) = ok_or (vars v.0) Mismatch
sort_of vars (e.In i) = Ok s.Bool
sort_of vars (e.Count a) = Ok s.Int
sort_of vars (e.Done a) = Ok s.Bool
sort_of vars (e.Not' p (more_of-Expr x end_of-Expr)) = sort_of vars x >>= takes s.Bool s.Bool
sort_of vars (e.Neg' p (more_of-Expr x end_of-Expr)) = sort_of vars x >>= takes s.Int s.Int
sort_of vars (e.Bin' op p (more_of-Expr x end_of-Expr) q (more_of-Expr y end_of-Expr)) = both (op_sort op) (sort_of vars x) (sort_of vars y)

-- the sort of a chart's variable, if there is one of this number
abbrev pub var_sort : Chart → ℕ → Option Sort
var_sort chart x = option_map (λ var. var.sort) (slice_get chart.vars x)
