-- Of other calls. What became of the strokes that a disk is to fail, after several strokes.
use Rattle.std.specs.Prelude.{◌≡◌, ◌⊎◌, ℕ, ◌+◌, ◌<◌, ◌≤◌, List, Some}
use Rattle.wf_model.specs.Faults.{last_count}
use Rattle.wf_disk.specs.Disk.{Told, KeepsPlan, GoesOnOrStops, IsDown}
use Rattle.wf_journal.specs.Start.{start_strokes}

-- each stroke of the call was done: none of them was to fail, if the disk tells its image, and the plan is kept
pub record WentOn (old new : Told) : Type 0 where
  pub later : old.clock ≤ new.clock
  pub safe : (file : List ℕ) → old.image ≡ Some file → (n : ℕ) → old.clock < n → n ≤ new.clock → old.is_to_fail n → ⊥
  pub plan : KeepsPlan old new

-- one stroke of the call failed, the first that was to, and none came after it
pub record Struck (old new : Told) (most : ℕ) : Type 0 where
  -- its number, as the clock counts
  pub stroke : ℕ
  pub later : old.clock < stroke
  pub within : stroke ≤ old.clock + most
  pub hit : old.is_to_fail stroke
  pub first : (file : List ℕ) → old.image ≡ Some file → (n : ℕ) → old.clock < n → n < stroke → old.is_to_fail n → ⊥
  -- the clock stands there, or at its end
  pub clock : (new.clock ≡ stroke) ⊎ ((new.clock ≡ last_count) × (stroke ≡ last_count + 1))
  pub goes_on_or_stops : GoesOnOrStops old new stroke

-- A call of at most so many strokes answers that the disk failed exactly if a stroke of it failed.
pub record MeetsPlan (old new : Told) (most : ℕ) (failed : Type 0) : Type 0 where
  pub done : (failed → ⊥) → WentOn old new
  pub struck : failed → Struck old new most

-- the first sync of a start was done, and then a size or a read failed, since the disk is down
pub record IsFoundDown (old new : Told) : Type 0 where
  pub went_on : WentOn old new
  pub clock : new.clock ≡ old.clock + 1
  pub down : IsDown new

-- A start answers that the disk failed exactly if a stroke of it failed or it found the disk down.
pub record StartMeetsPlan (old new : Told) (failed : Type 0) : Type 0 where
  pub done : (failed → ⊥) → WentOn old new
  pub struck : failed → Struck old new (start_strokes old.image) ⊎ IsFoundDown old new
