-- The first of several: the first item that fails a test, the first fault that there is.
use Rattle.std.specs.Prelude.{ℕ, ◌+◌, Bool, not, if◌then◌else◌, List, [], ◌∷◌, Option, Some, None, position}
use Rattle.std.specs.List.{enumerate_from}
use Rattle.std.specs.Option.{option_or}
use Rattle.wf_check.specs.declared.fault.CheckFault.{CheckFault}

-- the number of the first item that doesn't pass the test
abbrev pub first_failing : {A : Type 0} → (A → Bool) → List A → Option ℕ
first_failing test xs = position (λ x. not (test x)) xs

-- the number of the first item that doesn't pass the test with its number
abbrev pub first_failing_numbered : {A : Type 0} → (ℕ → A → Bool) → List A → Option ℕ
first_failing_numbered test xs = first_failing (λ p. test p.0 p.1) (enumerate_from 0 xs)

-- the fault, unless the test passes
abbrev pub unless : Bool → CheckFault → Option CheckFault
unless passes fault = if passes then None else Some fault

-- the first fault that there is
abbrev pub first_some : List (Option CheckFault) → Option CheckFault
first_some [] = None
first_some (fault ∷ more) = option_or fault (first_some more)

-- the fault of the first item that has one, where the items count from n
abbrev pub first_from : {A : Type 0} → (ℕ → A → Option CheckFault) → ℕ → List A → Option CheckFault
first_from fault n [] = None
first_from fault n (x ∷ xs) = option_or (fault n x) (first_from fault (n + 1) xs)
