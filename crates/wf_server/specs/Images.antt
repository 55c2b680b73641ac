-- Of other calls. What an image holds, and what a crash leaves.
use Rattle.std.specs.Prelude.{◌≡◌, ◌≢◌, ◌⊎◌, ℕ, ◌+◌, ◌<◌, Bool, true, false, List, [], length, take, Some, Ok}
use Rattle.wf_disk.specs.Disk.{Told, Only, LeavesOnly}
use Rattle.wf_journal.specs.Frames.{bodies_of, can_start}
use Rattle.wf_journal.specs.State.{Kept}
use Rattle.wf_parts.specs.declared.data.PartData.{PartData}
use Rattle.wf_histories.specs.Histories.{History}
use Rattle.wf_steps.specs.Records.{history_of}
use Rattle.wf_worlds.specs.Ends.{end_of_history}

-- IT HOLDS THIS HISTORY, behind a head, and each open gate has its whole frame. So a start over it is one stroke, and recovers the history.
pub record Holds (part : PartData) (past : History) (file : List ℕ) : Type 0 where
  pub begun : bodies_of file ≢ []
  pub starts : can_start file ≡ true
  pub history : history_of part file ≡ Ok past

-- it holds this history or that one
abbrev pub HoldsEither : PartData → History → History → List ℕ → Type 0
HoldsEither part before then file = Holds part before file ⊎ Holds part then file

-- it holds what that image holds, behind a head if that one has a head; and a journal starts on it if one starts on that
pub record IsLike (part : PartData) (image file : List ℕ) : Type 0 where
  pub begun : bodies_of image ≢ [] → bodies_of file ≢ []
  pub starts : can_start image ≡ true → can_start file ≡ true
  pub history : history_of part file ≡ history_of part image

-- it holds the same as one of these images
abbrev pub HoldsOneOf : PartData → (List ℕ → Type 0) → List ℕ → Type 0
HoldsOneOf part images file = (image : List ℕ) × images image × IsLike part image file

-- the other history begins with this one
pub record Begins (past other : History) : Type 0 where
  pub admissions : take (length past.admissions) other.admissions ≡ past.admissions
  pub turns : take (length past.turns) other.turns ≡ past.turns

-- it holds a history that begins with this one
abbrev pub HoldsOn : PartData → History → List ℕ → Type 0
HoldsOn part past file = (other : History) × Holds part other file × Begins past other

-- this image of the disk holds this history, and a crash leaves it as it is
pub record IsOnly (disk : Told) (part : PartData) (past : History) (file : List ℕ) : Type 0 where
  pub image : Holds part past file
  pub only : Only file disk.may_leave

-- BETWEEN TWO CALLS. Until a call of the disk failed, the disk has this history alone; and at all times each crash leaves a history that
-- begins with it. So where the disk tells its image.
pub record Stands (disk : Told) (failed : Bool) (part : PartData) (past : History) : Type 0 where
  pub exact : failed ≡ false → (file : List ℕ) → disk.image ≡ Some file → IsOnly disk part past file
  pub stays : (file : List ℕ) → disk.image ≡ Some file → (c : List ℕ) → disk.may_leave c → HoldsOn part past c

-- where the disk tells its image, the journal's closed gate stands behind this history
abbrev pub IsPlaced : {D : Type 0} → (D → Told) → Kept D → PartData → History → Type 0
IsPlaced told journal part past = (file : List ℕ) → (told journal.disk).image ≡ Some file → journal.place ≡ end_of_history part past

-- THE CRASH CLAUSE of a call that may add a record, if no call of the disk failed before: a crash at any moment of it leaves the history
-- before it, or the one with the record; and before its third stroke the one before.
pub record CrashLeaves (old new : Told) (failed : Bool) (part : PartData) (before then : History) : Type 0 where
  pub either : failed ≡ false → (file : List ℕ) → old.image ≡ Some file → LeavesOnly old new (HoldsEither part before then)
  pub fewer : failed ≡ false → (file : List ℕ) → old.image ≡ Some file → new.clock < old.clock + 3 → LeavesOnly old new (Holds part before)
