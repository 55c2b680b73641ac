-- Inner. What inner calls tell of a disk, of texts and of the shelf, from which a trail is made up.
use Rattle.std.specs.Prelude.{ℕ, ◌≡◌, ◌≢◌, ◌≤◌, ◌<◌, List, Option, Some, None, Result, Ok, Err, IsOk, IfErr, IfSome, IsErrAnd, IsSome, option_map}
use Rattle.wf_model.specs.Faults.{Rose}
use Rattle.wf_model.specs.declared.ids.UnitId.{UnitId}
use Rattle.wf_model.specs.declared.chart.Chart.{Chart}
use Rattle.wf_model.specs.declared.fault.Failed.{Failed}
use Rattle.wf_disk.specs.Disk.{Told}
use Rattle.wf_disk.specs.Shelf.{ShelfTold, KeepsDisk}
use Rattle.wf_disk.specs.declared.shelf.TakeRefused.{TakeRefused}
use Rattle.wf_disk.specs.declared.shelf.TakeRefused.TheVariants as take
use Rattle.wf_parts.specs.Parts.{part_of}
use Rattle.wf_journal.specs.Frames.{open_gate}
use Rattle.wf_journal.specs.Journal.{HasBodiesOf}
use Rattle.wf_journal.specs.declared.fault.StartFault.{StartFault}
use Rattle.wf_journal.specs.declared.fault.StartFault.TheVariants as start
use Rattle.wf_histories.specs.Histories.{History}
use Rattle.wf_steps.specs.declared.fault.RecoverFault.{RecoverFault}
use Rattle.wf_steps.specs.declared.fault.RecoverFault.TheVariants as steps
use Rattle.wf_steps.specs.Room.{Replicated}
use Rattle.wf_trail.specs.declared.fault.TrailFault.{TrailFault}
use Rattle.wf_trail.specs.declared.fault.TrailFault.TheVariants as f
use Rattle.wf_trail.specs.declared.shelf.Trails.{Trails}
use Rattle.wf_trail.specs.Images.{kept_in, text_by, and_rest, short_text, MayTell}
use Rattle.wf_trail.specs.Shelves.{IsOfDisk, IsOfUnits}

-- ---- one disk

-- why a journal doesn't start: of a bad frame the byte is that of its open gate
abbrev pub start_fault : StartFault → RecoverFault
start_fault (start.BadFrame at) = steps.BadRecord at open_gate
start_fault start.DiskFailed = steps.DiskFailed
start_fault start.NoMemory = steps.NoMemory

-- what is wrong is told as it is; that memory ran out, or that the disk failed, is free
abbrev pub IsFault : Result (Option History) RecoverFault → RecoverFault → Type 0
IsFault wanted (steps.Foreign kept names) = wanted ≡ Err (steps.Foreign kept names)
IsFault wanted (steps.BadRecord at first) = wanted ≡ Err (steps.BadRecord at first)
IsFault wanted steps.DiskFailed = Unit {0}
IsFault wanted steps.NoMemory = Unit {0}

-- what is found on a disk is what is wanted of it
abbrev pub IsKept : Result (Option History) RecoverFault → Result (Option Replicated) RecoverFault → Type 0
IsKept wanted (Ok kept) = wanted ≡ Ok (option_map (λ (replica : Replicated). replica.past) kept)
IsKept wanted (Err fault) = IsFault wanted fault

-- ---- texts

-- a unit's text is told by what was found on its disk
abbrev pub TellsBy : Chart → ℕ → Result (Option Replicated) RecoverFault → Result (List ℕ) TrailFault → Type 0
TellsBy chart u kept text = (wanted : Result (Option History) RecoverFault) → IsKept wanted kept → MayTell (text_by chart u wanted) text

-- a text is told of a first one and of what comes behind it
abbrev pub TellsBoth : (first rest text : Result (List ℕ) TrailFault) → Type 0
TellsBoth first rest text = (one others : Result (List ℕ) TrailFault) → MayTell one first → MayTell others rest → MayTell (and_rest one others) text

-- a unit's text is told of its disk's image, with what comes behind it
abbrev pub TellsUnit : Chart → ℕ → Option (List ℕ) → (rest text : Result (List ℕ) TrailFault) → Type 0
TellsUnit chart u image rest text = (file : List ℕ) (others : Result (List ℕ) TrailFault) → image ≡ Some file → MayTell others rest →
    MayTell (and_rest (text_by chart u (kept_in (part_of chart u) file)) others) text

-- a text is told of one that may be too long
abbrev pub TellsShort : (whole text : Result (List ℕ) TrailFault) → Type 0
TellsShort whole text = (wanted : Result (List ℕ) TrailFault) → MayTell wanted whole → MayTell (short_text wanted) text

-- ---- the shelf

-- memory ran out, or a disk failed
abbrev pub IsFree : TrailFault → Type 0
IsFree (f.DiskFailed unit) = Unit {0}
IsFree f.NoMemory = Unit {0}
IsFree _ = ⊥

-- why a unit's disk isn't handed out
abbrev pub take_fault : UnitId → TakeRefused → TrailFault
take_fault unit take.Failed = f.DiskFailed unit
take_fault unit take.NoMemory = f.NoMemory

-- the first unit whose disk wasn't taken back, by that of the units behind this one
abbrev pub first_loss : UnitId → Option UnitId → Result (Unit {0}) Failed → Option UnitId
first_loss unit lost (Ok done) = lost
first_loss unit lost (Err failed) = Some unit

-- The disk of this name stands on the shelf again, with the image that it went out with, and no other was moved. A crash leaves of it,
-- and might have left since it went out, the bodies of what it might have left then.
pub record ComesBack (name : List ℕ) (old new : ShelfTold) (disk : Told) : Type 0 where
  pub stands : new.taken_at name ≡ None
  pub image : new.image name ≡ disk.image
  pub now : (file : List ℕ) → disk.image ≡ Some file → (c : List ℕ) → new.may_leave name c → HasBodiesOf disk.may_leave c
  pub meanwhile : (file : List ℕ) → disk.image ≡ Some file → old.taken_at name ≡ Some disk.moment → (c : List ℕ) → new.left_between name c → HasBodiesOf disk.may_leave c
  pub others : (n : List ℕ) → n ≢ name → KeepsDisk n old new

-- a shelf's count of faults doesn't fall, it rose if a disk failed or wasn't taken back, and else it is as before
pub record HasCauses (old new : ℕ) (trail : Trails) : Type 0 where
  pub later : old ≤ new
  pub text : IsErrAnd trail.text IsOfDisk → Rose old new
  pub lost : IsSome trail.lost → Rose old new
  pub kept : IsOk trail.text → trail.lost ≡ None → new ≡ old

-- the unit that a fault names, and the one whose disk wasn't taken back, are of these units
pub record NamesUnits (units : ℕ) (trail : Trails) : Type 0 where
  pub text : IfErr trail.text (IsOfUnits units)
  pub lost : IfSome trail.lost (λ unit. unit.0 < units)
