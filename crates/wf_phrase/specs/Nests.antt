-- Inner. A function value that reads what stands in parentheses.
-- Only so many more may open there.
use Rattle.std.specs.Prelude.{ℕ, Result}
use Rattle.std.specs.declared.alloc.Global.{Global}
use denote.Ref.{MutBor}
use Rattle.wf_model.specs.declared.expr.Expr.{Expr}
use Rattle.wf_cursor.specs.declared.fault.TextFault.{TextFault}
use Rattle.wf_cursor.specs.Input.{Input, Reads}
use Rattle.wf_phrase.specs.Expressions.{parens}

pub record Nests (depth : ℕ) (pre : Global → MutBor Input → ℕ → Type 0)
    (post : Global → MutBor Input → ℕ → Result Expr TextFault → MutBor Input → Type 0) : Type 0 where
  pub callable : (alloc : Global) (old : MutBor Input) → pre alloc old depth
  pub reads : (alloc : Global) (old new : MutBor Input) (r : Result Expr TextFault) → post alloc old depth r new → Reads (parens depth old.now) r new.now
