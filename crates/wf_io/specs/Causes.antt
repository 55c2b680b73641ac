-- Inner. When a source or a sink may answer that it failed.
use Rattle.std.specs.Prelude.{ℕ, ◌≡◌, ◌≤◌, Result, OnOk, OnErr}
use Rattle.wf_model.specs.Faults.{Rose}

-- the count of faults never falls, an Err comes only where it rose, and an Ok passes no fault over
pub record HasCause {T E : Type 0} (before now : ℕ) (result : Result T E) : Type 0 where
  pub later : before ≤ now
  pub failed : OnErr result (Rose before now)
  pub kept : OnOk result (now ≡ before)
