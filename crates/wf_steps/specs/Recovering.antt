-- Of other calls. What a recovery answers.
use Rattle.std.specs.Prelude.{ℕ, ◌≡◌, ◌≢◌, List, [], Option, Some, None, Result, Ok, Err, MatchResult, map}
use Rattle.wf_disk.specs.Disk.{Told}
use Rattle.wf_journal.specs.declared.fault.ReadFault.{ReadFault}
use Rattle.wf_journal.specs.declared.fault.ReadFault.TheVariants as read
use Rattle.wf_journal.specs.Frames.{Frame, frames_from, bodies_of, end_of}
use Rattle.wf_journal.specs.Journal.{IsPlace}
use Rattle.wf_parts.specs.declared.data.PartData.{PartData}
use Rattle.wf_histories.specs.Histories.{History}
use Rattle.wf_steps.specs.declared.fault.RecoverFault.{RecoverFault}
use Rattle.wf_steps.specs.declared.fault.RecoverFault.TheVariants as f
use Rattle.wf_steps.specs.Records.{read_on, history_of}
use Rattle.wf_worlds.specs.Ends.{end_of_history}

-- a read's refusal, as a recovery tells it
abbrev pub fault_of : ReadFault → RecoverFault
fault_of read.DiskFailed = f.DiskFailed
fault_of read.NoMemory = f.NoMemory

-- the fault that is wanted, unless memory ran out or the disk failed
abbrev pub IsFault : Result History RecoverFault → RecoverFault → Type 0
IsFault wanted (f.Foreign kept names) = wanted ≡ Err (f.Foreign kept names)
IsFault wanted (f.BadRecord at first) = wanted ≡ Err (f.BadRecord at first)
IsFault wanted f.DiskFailed = Unit {0}
IsFault wanted f.NoMemory = Unit {0}

-- this history at Ok, and else the fault that is wanted
abbrev pub Reads : {T : Type 0} → Result History RecoverFault → History → Result T RecoverFault → Type 0
Reads wanted h result = MatchResult result (λ _. wanted ≡ Ok h) (IsFault wanted)

-- P of what the frames from this place on make of a history, where the disk tells an image of which this is a place
abbrev pub FromPlace : Told → PartData → ℕ → History → (Result History RecoverFault → Type 0) → Type 0
FromPlace disk part place h P = (file : List ℕ) → disk.image ≡ Some file → IsPlace file place → P (read_on part (map (λ (frame : Frame). frame.body) (frames_from file place)) place h)

-- where the disk tells an image on which a journal can be read, and there is a frame, it ends where the journal of this history does
abbrev pub EndsAt : Told → PartData → History → Type 0
EndsAt disk part h = (file : List ℕ) → disk.image ≡ Some file → IsPlace file 0 → bodies_of file ≢ [] → end_of file ≡ end_of_history part h

-- P of what the disk's image holds, where the disk tells one on which a journal can be read
abbrev pub OfImage : Told → PartData → (Result History RecoverFault → Type 0) → Type 0
OfImage disk part P = (file : List ℕ) → disk.image ≡ Some file → IsPlace file 0 → P (history_of part file)
