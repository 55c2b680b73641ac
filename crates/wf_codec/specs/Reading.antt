-- Of other calls. Reading from left to right, with the first fault that is met.
-- A field that is read is a value and the bytes behind it.
use Rattle.std.specs.Prelude.{ℕ, zero, suc, ◌≡◌, List, [], ◌∷◌, length, take, drop, Option, Some, None, Result, Ok, Err, Bool, ◌&&◌, nat_le, nat_lt, if◌then◌else◌}
use Rattle.std.specs.Borrow.{Bor}
use Rattle.std.specs.Int.{Width, w64, byte_len, from_be_bytes}
use Rattle.wf_model.specs.Steps.{◌>>=◌}
use Rattle.wf_codec.specs.declared.fault.Misfit.{Misfit}
use Rattle.wf_codec.specs.declared.fault.Misfit.TheVariants.{Short, Bad}
use Rattle.wf_codec.specs.declared.fault.FieldFault.{FieldFault}
use Rattle.wf_codec.specs.declared.fault.FieldFault.TheVariants as fault

-- a function failed as reading does, unless memory ran out
abbrev pub Fails : {Y : Type 0} → FieldFault → Result Y Misfit → Type 0
Fails fault.NoMemory read = Unit {0}
Fails (fault.Misfit misfit) read = read ≡ Err misfit

-- what a function answered, seen so, is what reading gives, unless memory ran out
abbrev pub ReadsAs : {X Y : Type 0} → (X → Y) → Result X FieldFault → Result Y Misfit → Type 0
ReadsAs view (Ok x) read = read ≡ Ok (view x)
ReadsAs view (Err e) read = Fails e read

-- the same of a value and the bytes behind it
abbrev pub Reads : {X : Type 0} → Result (X × Bor (List ℕ)) FieldFault → Result (X × List ℕ) Misfit → Type 0
Reads result reading = ReadsAs (λ x. (x.0, x.1.now)) result reading

-- a number is in its range, from the least on and below the limit
abbrev pub is_within : ℕ → ℕ → ℕ → Bool
is_within least limit n = nat_le least n && nat_lt n limit

-- the number and what is behind it, or that its field is bad, with how many bytes there are from its first one on
abbrev pub ranged : ℕ → ℕ → List ℕ → ℕ → List ℕ → Result (ℕ × List ℕ) Misfit
ranged least limit bytes n rest = if is_within least limit n then Ok (n, rest) else Err (Bad (length bytes))

-- one byte that passes a test
unfoldable pub byte_that : (ℕ → Bool) → List ℕ → Result (ℕ × List ℕ) Misfit
byte_that test [] = Err Short
byte_that test (b ∷ rest) = if test b then Ok (b, rest) else Err (Bad (suc (length rest)))

-- one byte in a range
unfoldable pub byte_in : ℕ → ℕ → List ℕ → Result (ℕ × List ℕ) Misfit
byte_in least limit bytes = byte_that (is_within least limit) bytes

-- a number of some bytes in a range
unfoldable pub number_in : Width → ℕ → ℕ → List ℕ → Result (ℕ × List ℕ) Misfit
number_in w least limit bytes =
    if nat_lt (length bytes) (byte_len w) then Err Short
    else ranged least limit bytes (from_be_bytes w (take (byte_len w) bytes)) (drop (byte_len w) bytes)

-- a number of eight bytes, which may be any
unfoldable pub eight_at : List ℕ → Result (ℕ × List ℕ) Misfit
eight_at bytes =
    if nat_lt (length bytes) (byte_len w64) then Err Short
    else Ok (from_be_bytes w64 (take (byte_len w64) bytes), drop (byte_len w64) bytes)

-- so many items, each of which may look at the one before it
unfoldable pub items_at : {A : Type 0} → (Option A → List ℕ → Result (A × List ℕ) Misfit) → ℕ → Option A → List ℕ → Result (List A × List ℕ) Misfit
items_at item zero before bytes = Ok ([], bytes)
items_at item (suc n) before bytes = do
  first ← item before bytes
  others ← items_at item n (Some first.0) first.1
  Ok (first.0 ∷ others.0, others.1)

-- so many bytes, each of which passes a test
abbrev pub bytes_that : (ℕ → Bool) → ℕ → List ℕ → Result (List ℕ × List ℕ) Misfit
bytes_that test n bytes = items_at (λ before. byte_that test) n None bytes

-- the least number that may follow, where numbers ascend
abbrev pub least_after : {A : Type 0} → (A → ℕ) → Option A → ℕ
least_after number None = 0
least_after number (Some x) = suc (number x)
