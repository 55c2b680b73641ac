-- Of other calls. A source and a sink in memory, which fail where they are told to.
use Rattle.std.specs.Prelude.{ℕ, List, Contains}
use Rattle.wf_model.specs.Faults.{one_more}

-- what a source or a sink in memory is
pub record InMemory : Type 0 where
  -- of a source those that are left, of a sink those that it holds
  pub bytes : List ℕ
  -- how many bytes go through it in one call, at most
  pub piece : ℕ
  -- the numbers of the calls that fail, counted from 1
  pub fail_at : List ℕ
  -- how many calls there were, and how many failed
  pub calls : ℕ
  pub faults : ℕ

-- before its first call
abbrev pub unused : List ℕ → ℕ → List ℕ → InMemory
unused bytes piece fail_at = record { bytes = bytes; piece = piece; fail_at = fail_at; calls = 0; faults = 0 }

-- its next call is one of those that are listed to fail
abbrev pub IsToFail : InMemory → Type 0
IsToFail before = Contains before.fail_at (one_more before.calls)

-- after a call that failed
abbrev pub after_fault : InMemory → InMemory
after_fault before = record before { calls = one_more before.calls; faults = one_more before.faults }

-- after a call that succeeded, with the bytes that are then left or held
abbrev pub after_success : InMemory → List ℕ → InMemory
after_success before bytes = record before { bytes = bytes; calls = one_more before.calls }
