-- Of other calls. A disk: what its calls do, and what a crash may leave between two syncs.
use Rattle.std.specs.Prelude.{◌≡◌, ◌⊎◌, ℕ, ◌+◌, ◌≤◌, ◌<◌, max, List, ◌++◌, length, take, drop, Option, Some}
use Rattle.wf_model.specs.Faults.{last_count, Rose}

-- A disk at one moment. A stroke is a write or a sync, failed ones too.
pub record Told : Type 1 where
  -- its bytes, where it tells them
  pub image : Option (List ℕ)
  -- how many strokes were made
  pub clock : ℕ
  -- how often it has failed
  pub faults : ℕ
  -- a number by which moments are named, which no call of the trait lowers
  pub moment : ℕ
  -- the images that a crash now may leave
  pub may_leave : List ℕ → Type 0
  -- the images that a crash at some moment from this one on may have left
  pub left_since : ℕ → List ℕ → Type 0
  -- whether the stroke that moves the clock to this number is to fail
  pub is_to_fail : ℕ → Type 0
  -- whether it is to leave the disk stopped as it fails
  pub is_to_stop : ℕ → Type 0
  -- whether so many writes, of so many bytes in all, want no memory
  pub has_room : ℕ → ℕ → Type 0

-- an image with these bytes at this place, over what is there and past the end
abbrev pub put_at : List ℕ → ℕ → List ℕ → List ℕ
put_at old at bytes = take at old ++ bytes ++ drop (at + length bytes) old

-- after a write of n bytes that a crash cuts short: any bytes in the range and past the old end, the same elsewhere
pub record Torn (at n : ℕ) (old new : List ℕ) : Type 0 where
  pub before : take at new ≡ take at old
  pub after : drop (at + n) new ≡ drop (at + n) old
  pub no_shorter : length old ≤ length new
  pub no_longer : length new ≤ max (length old) (at + n)

-- each new outcome of a crash is an old outcome after a step
abbrev pub Follows : (List ℕ → List ℕ → Type 0) → (List ℕ → Type 0) → (List ℕ → Type 0) → Type 0
Follows step old new = (c : List ℕ) → new c → (d : List ℕ) × old d × step d c

-- each outcome of one is an outcome of the other
abbrev pub Within : (List ℕ → Type 0) → (List ℕ → Type 0) → Type 0
Within new old = (c : List ℕ) → new c → old c

-- a crash leaves this and nothing else
abbrev pub Only : List ℕ → (List ℕ → Type 0) → Type 0
Only file outcomes = (c : List ℕ) → outcomes c → c ≡ file

-- the same strokes are to fail, and of these the same are to stop the disk
pub record KeepsPlan (old new : Told) : Type 0 where
  pub kept : (n : ℕ) → old.is_to_fail n → new.is_to_fail n
  pub no_other : (n : ℕ) → new.is_to_fail n → old.is_to_fail n
  pub stops_kept : (n : ℕ) → old.is_to_stop n → new.is_to_stop n
  pub no_other_stop : (n : ℕ) → new.is_to_stop n → old.is_to_stop n

-- every stroke from now on is to fail
abbrev pub IsDown : Told → Type 0
IsDown disk = (n : ℕ) → disk.clock < n → disk.is_to_fail n

-- A stroke of this number failed. If it isn't to stop the disk the plan is kept, and if it is the disk is down.
abbrev pub GoesOnOrStops : Told → Told → ℕ → Type 0
GoesOnOrStops old new n = ((old.is_to_stop n → ⊥) × KeepsPlan old new) ⊎ (old.is_to_stop n × IsDown new)

-- none of the next strokes, so many of them, is to fail
abbrev pub IsSafeFor : Told → ℕ → Type 0
IsSafeFor disk strokes = (n : ℕ) → disk.clock < n → n ≤ disk.clock + strokes → disk.is_to_fail n → ⊥

-- a call that is no stroke and does nothing
pub record IsSame (old new : Told) : Type 0 where
  pub image : new.image ≡ old.image
  pub clock : new.clock ≡ old.clock
  pub moment : new.moment ≡ old.moment
  pub crash : Within new.may_leave old.may_leave
  pub crash_kept : Within old.may_leave new.may_leave
  pub past : (t : ℕ) → Within (new.left_since t) (old.left_since t)
  pub past_kept : (t : ℕ) → Within (old.left_since t) (new.left_since t)
  pub plan : KeepsPlan old new
  pub room : (writes bytes : ℕ) → old.has_room writes bytes → new.has_room writes bytes

-- Time goes on: a crash since t might have left what it might have left before, or what it may leave now.
pub record Elapses (old new : Told) : Type 0 where
  pub later : old.moment ≤ new.moment
  pub nothing_else : (t : ℕ) (c : List ℕ) → t ≤ old.moment → new.left_since t c → old.left_since t c ⊎ new.may_leave c
  pub keeps : (t : ℕ) → t ≤ old.moment → Within (old.left_since t) (new.left_since t)

-- a clock that stood at its end, the greatest count, and stands there still
abbrev pub StandsAtEnd : Told → Told → Type 0
StandsAtEnd old new = (old.clock ≡ last_count) × (new.clock ≡ last_count)

-- One stroke. At a failure the clock may stand at its end instead, and then nothing was done.
pub record Strikes (old new : Told) (at_ok at_failure : Type 0) : Type 0 where
  pub done : at_ok → new.clock ≡ old.clock + 1
  pub failed : at_failure → (new.clock ≡ old.clock + 1) ⊎ (StandsAtEnd old new × Within new.may_leave old.may_leave)

-- Which strokes fail: those that are to, if the disk tells its image.
pub record GoesToPlan (old new : Told) (at_ok at_failure : Type 0) : Type 0 where
  pub done : at_ok → (file : List ℕ) → old.image ≡ Some file → old.is_to_fail (old.clock + 1) → ⊥
  pub kept : at_ok → KeepsPlan old new
  pub failed : at_failure → old.is_to_fail (old.clock + 1)
  pub goes_on_or_stops : at_failure → GoesOnOrStops old new (old.clock + 1)

-- the count of faults doesn't fall, a failure comes only if it rose, and no other answer passes a fault over
pub record HasCause (old new : Told) (failure : Type 0) : Type 0 where
  pub later : old.faults ≤ new.faults
  pub rose : failure → Rose old.faults new.faults
  pub kept : (failure → ⊥) → new.faults ≡ old.faults

-- what holds of a disk at any moment
pub record IsLawful (disk : Told) : Type 0 where
  -- what a read gives is one of the images that a crash may leave
  pub stands : (file : List ℕ) → disk.image ≡ Some file → disk.may_leave file
  pub counts_now : (t : ℕ) → t ≤ disk.moment → Within disk.may_leave (disk.left_since t)
  pub only_now : Within (disk.left_since disk.moment) disk.may_leave
  -- a stroke that is to stop it is one that is to fail
  pub stops_fail : (n : ℕ) → disk.is_to_stop n → disk.is_to_fail n
  -- where there is room for more, there is room for less
  pub less : (writes more bytes many : ℕ) → disk.has_room (writes + more) (bytes + many) → disk.has_room writes bytes

-- A crash at any moment since old leaves a file that has P.
pub record LeavesOnly (old new : Told) (P : List ℕ → Type 0) : Type 0 where
  pub later : old.moment ≤ new.moment
  pub each : (c : List ℕ) → new.left_since old.moment c → P c
  -- for a run that began earlier
  pub before : (t : ℕ) (c : List ℕ) → t ≤ old.moment → new.left_since t c → old.left_since t c ⊎ P c
