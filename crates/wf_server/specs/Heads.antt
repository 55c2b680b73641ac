-- Inner. What a stretch of a start does to its disk, and what its head has.
use Rattle.std.specs.Prelude.{Result, Err, ◌≡◌, ◌≢◌, ℕ, ◌+◌, List, [], Option, Some, None, if◌then◌else◌}
use Rattle.wf_disk.specs.Disk.{Told, Only, LeavesOnly}
use Rattle.wf_journal.specs.Frames.{bodies_of}
use Rattle.wf_journal.specs.Room.{UsesRoom}
use Rattle.wf_journal.specs.Start.{CanBeRead}
use Rattle.wf_parts.specs.declared.data.PartData.{PartData}
use Rattle.wf_steps.specs.Records.{history_of}
use Rattle.wf_steps.specs.declared.fault.RecoverFault.{RecoverFault}
use Rattle.wf_steps.specs.declared.fault.RecoverFault.TheVariants as recovery
use Rattle.wf_histories.specs.Histories.{History}
use Rattle.wf_server.specs.declared.fault.NodeFault.{NodeFault}
use Rattle.wf_server.specs.declared.fault.NodeFault.TheVariants as faults
use Rattle.wf_server.specs.Images.{HoldsOneOf}
use Rattle.wf_server.specs.Starting.{RunsFor, has_none, head_length}

-- the image holds what it held, and with a frame in it it is the same; a crash meanwhile leaves what holds the same as an image that a crash
-- just before could leave
pub record KeepsHistory (part : PartData) (old new : Told) : Type 0 where
  pub image : (file now : List ℕ) → old.image ≡ Some file → new.image ≡ Some now → history_of part now ≡ history_of part file
  pub same : (file : List ℕ) → old.image ≡ Some file → bodies_of file ≢ [] → new.image ≡ Some file
  pub crash : (file : List ℕ) → old.image ≡ Some file → LeavesOnly old new (HoldsOneOf part old.may_leave)

-- a stretch of a start: its strokes, of which there are at most so many, and the history
pub record Stretch (part : PartData) (old new : Told) (most : ℕ) (failed : Type 0) : Type 0 where
  pub runs : RunsFor old new most failed
  pub keeps : KeepsHistory part old new

-- a crash leaves the image as it is, where the disk tells one
abbrev pub IsStill : Told → Type 0
IsStill disk = (file : List ℕ) → disk.image ≡ Some file → Only file disk.may_leave

-- the image has no frame; and it has one
abbrev pub IsEmpty : Told → Type 0
IsEmpty disk = (file : List ℕ) → disk.image ≡ Some file → bodies_of file ≡ []

abbrev pub IsBegun : Told → Type 0
IsBegun disk = (file : List ℕ) → disk.image ≡ Some file → bodies_of file ≢ []

-- a disk on which a unit's history can be read and go on
pub record IsOpen (disk : Told) : Type 0 where
  pub begun : IsBegun disk
  pub still : IsStill disk
  pub readable : CanBeRead disk

-- at most so many strokes a head takes on a disk with this image
abbrev pub most_head : Option (List ℕ) → ℕ
most_head None = 4
most_head (Some file) = if has_none (bodies_of file) then 4 else 0

-- a head takes four strokes, and none is written where there is a frame
abbrev pub HeadStrokes : Told → Told → Type 0
HeadStrokes old new = (file : List ℕ) → old.image ≡ Some file → new.clock ≡ old.clock + (if has_none (bodies_of file) then 4 else 0)

-- of the disk's room a head takes no more than two writes, and nothing is gone where there is a frame
pub record HeadRoom (part : PartData) (old new : Told) : Type 0 where
  pub most : UsesRoom old new 2 (head_length part + 6)
  pub begun : (file : List ℕ) → old.image ≡ Some file → bodies_of file ≢ [] → UsesRoom old new 0 0

-- why a journal that was opened isn't read as the unit's
abbrev pub ReadFails : Result History RecoverFault → NodeFault → Type 0
ReadFails wanted (faults.Foreign kept names) = wanted ≡ Err (recovery.Foreign kept names)
ReadFails wanted (faults.BadRecord place first) = wanted ≡ Err (recovery.BadRecord place first)
ReadFails wanted (faults.BadFrame place) = ⊥
ReadFails wanted faults.DiskFailed = Unit {0}
ReadFails wanted faults.NoMemory = Unit {0}
