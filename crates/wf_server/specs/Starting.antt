-- Of other calls. What a start answers, and what it does to its disk.
use Rattle.std.specs.Prelude.{◌≡◌, ◌≢◌, ◌⊎◌, ℕ, ◌+◌, ◌≤◌, true, false, nat_lt, not, Bool, List, [], ◌∷◌, length, Option, Some, None, Result, Ok, Err, if◌then◌else◌, is_some}
use Rattle.wf_disk.specs.Disk.{Told, IsDown, IsSafeFor, HasCause}
use Rattle.wf_journal.specs.Frames.{bodies_of, is_broken, end_of, can_start}
use Rattle.wf_journal.specs.Plan.{WentOn, Struck}
use Rattle.wf_journal.specs.Room.{UsesRoom}
use Rattle.wf_codec.specs.declared.record.JournalRecord.TheVariants.{Head}
use Rattle.wf_codec.specs.Records.{record_spelling}
use Rattle.wf_parts.specs.declared.data.PartData.{PartData}
use Rattle.wf_journal.specs.declared.fault.StartFault.{StartFault}
use Rattle.wf_journal.specs.declared.fault.StartFault.TheVariants as starts
use Rattle.wf_steps.specs.declared.fault.RecoverFault.{RecoverFault}
use Rattle.wf_steps.specs.declared.fault.RecoverFault.TheVariants as recovery
use Rattle.wf_histories.specs.Histories.{History}
use Rattle.wf_steps.specs.Records.{history_of}
use Rattle.wf_server.specs.declared.fault.NodeFault.{NodeFault}
use Rattle.wf_server.specs.declared.fault.NodeFault.TheVariants as faults
use Rattle.wf_server.specs.Servers.{Server, held}

-- of two bytes or more the file has an open gate at this place with no whole frame behind it
abbrev pub BreaksAt : List ℕ → ℕ → Type 0
BreaksAt file place = (2 ≤ length file) × (is_broken file ≡ true) × (end_of file ≡ place)

-- the image is the same after it
abbrev pub LeavesImage : Told → Told → Type 0
LeavesImage old new = (file : List ℕ) → old.image ≡ Some file → new.image ≡ Some file

-- why no server is started on this image: a bad frame comes first, then what the records are
abbrev pub StartFails : PartData → List ℕ → NodeFault → Type 0
StartFails part file (faults.BadFrame place) = BreaksAt file place
StartFails part file (faults.Foreign kept wanted) = (can_start file ≡ true) × (history_of part file ≡ Err (recovery.Foreign kept wanted))
StartFails part file (faults.BadRecord place first) = (can_start file ≡ true) × (history_of part file ≡ Err (recovery.BadRecord place first))
StartFails part file faults.DiskFailed = Unit {0}
StartFails part file faults.NoMemory = Unit {0}

-- a journal that is another's, or bad, is left as it is, to the byte
abbrev pub LeavesBad : Told → Told → NodeFault → Type 0
LeavesBad old new (faults.BadFrame place) = LeavesImage old new
LeavesBad old new (faults.Foreign kept wanted) = LeavesImage old new
LeavesBad old new (faults.BadRecord place first) = LeavesImage old new
LeavesBad old new faults.DiskFailed = Unit {0}
LeavesBad old new faults.NoMemory = Unit {0}

-- A refusal of the journal's start, and one of the recovery, as a server tells it.

abbrev pub unstarted_by : StartFault → NodeFault
unstarted_by (starts.BadFrame place) = faults.BadFrame place
unstarted_by starts.DiskFailed = faults.DiskFailed
unstarted_by starts.NoMemory = faults.NoMemory

abbrev pub unrecovered_by : RecoverFault → NodeFault
unrecovered_by (recovery.Foreign kept wanted) = faults.Foreign kept wanted
unrecovered_by (recovery.BadRecord place first) = faults.BadRecord place first
unrecovered_by recovery.DiskFailed = faults.DiskFailed
unrecovered_by recovery.NoMemory = faults.NoMemory

-- a server as it begins: it goes on from what the image holds, no call of its disk failed, and nothing came
pub record IsStarted {D : Type 0} (part : PartData) (server : Server D) : Type 0 where
  pub part_is : server.part ≡ part
  pub healthy : server.journal.failed ≡ false
  pub empty : (v step : ℕ) → held server v step ≡ None
  pub unready : server.ready ≡ false

-- the file holds no frame
abbrev pub has_none : List (List ℕ) → Bool
has_none [] = true
has_none (body ∷ bodies) = false

-- the strokes of a start: on a new disk 7, on a journal without frames 5, else 1
abbrev pub strokes_on : List ℕ → ℕ
strokes_on file = if nat_lt (length file) 2 then 7 else (if has_none (bodies_of file) then 5 else 1)

-- at most so many it makes on a disk with this image
abbrev pub most_on : Option (List ℕ) → ℕ
most_on None = 7
most_on (Some file) = strokes_on file

-- A call of at most so many strokes fails at the first of them that the disk is to fail, or finds the disk down, and not over a disk that
-- isn't to fail one; with another answer none was to fail. The disk's count of faults rises exactly if it fails.
pub record RunsFor (old new : Told) (most : ℕ) (failed : Type 0) : Type 0 where
  pub within : new.clock ≤ old.clock + most
  pub done : (failed → ⊥) → WentOn old new
  pub struck : failed → Struck old new most ⊎ (WentOn old new × IsDown new)
  pub safe : IsSafeFor old (most + 1) → failed → ⊥
  pub cause : HasCause old new failed
  pub tells : is_some new.image ≡ is_some old.image

-- a start makes as many as its disk's image asks
abbrev pub StartRuns : Told → Told → Type 0 → Type 0
StartRuns old new failed = RunsFor old new (most_on old.image) failed

-- the length of the head record of a part's journal
abbrev pub head_length : PartData → ℕ
head_length part = length (record_spelling (Head 1 part.chart part.name))

-- Of the room that its disk had a start takes no more than three writes, of the head's length and seven bytes in all; where there is a
-- frame no more than one write of one byte.
pub record StartRoom (part : PartData) (old new : Told) : Type 0 where
  pub most : UsesRoom old new 3 (head_length part + 7)
  pub begun : (file : List ℕ) → old.image ≡ Some file → bodies_of file ≢ [] → UsesRoom old new 1 1

-- A START OVER AN IMAGE THAT A SERVER LEFT makes one stroke. At Ok it was done; else it failed, or the disk was down, or memory ran out.

pub record Reopens (old new : Told) (past now : History) : Type 0 where
  pub history : now ≡ past
  pub went_on : WentOn old new
  pub clock : new.clock ≡ old.clock + 1

pub record StaysShut (old new : Told) (fault : NodeFault) : Type 0 where
  pub why : (fault ≡ faults.DiskFailed) ⊎ (fault ≡ faults.NoMemory)
  pub runs : RunsFor old new 1 (fault ≡ faults.DiskFailed)
