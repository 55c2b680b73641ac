-- Of other calls. What an adapter over a reader or a writer tells.
use Rattle.std.specs.Prelude.{ℕ, List, Option}

-- the bytes that are left or held, where the reader or writer tells them, and the count of faults
pub record Told : Type 0 where
  pub bytes : Option (List ℕ)
  pub faults : ℕ
