-- Of other calls. What a trail leaves of a shelf.
use Rattle.std.specs.Prelude.{◌≡◌, ◌⊎◌, ◌<◌, List, ℕ, None, Some}
use Rattle.wf_disk.specs.Shelf.{ShelfTold, KeepsDisk}
use Rattle.wf_journal.specs.Journal.{HasBodiesOf}
use Rattle.wf_trail.specs.declared.fault.TrailFault.{TrailFault}
use Rattle.wf_trail.specs.declared.fault.TrailFault.TheVariants as f

-- the shelf tells these images of all disks that stand on it
abbrev pub Tells : ShelfTold → (List ℕ → List ℕ) → Type 0
Tells shelf images = (name : List ℕ) → shelf.taken_at name ≡ None → shelf.image name ≡ Some (images name)

-- each disk stands where it stood, or is out as it was, and has the image that it had
pub record KeepsDisks (old new : ShelfTold) : Type 0 where
  pub image : (name : List ℕ) → new.image name ≡ old.image name
  pub taken_at : (name : List ℕ) → new.taken_at name ≡ old.taken_at name

-- A crash now, and one at some moment since its disk was last taken, leaves of this disk the bodies of what a crash before may
-- have left, and a journal starts on it if one starts on that.
pub record LeavesBodies (name : List ℕ) (old new : ShelfTold) : Type 0 where
  pub now : (c : List ℕ) → new.may_leave name c → HasBodiesOf (old.may_leave name) c
  pub meanwhile : KeepsDisk name old new ⊎ ((c : List ℕ) → new.left_between name c → HasBodiesOf (old.may_leave name) c)

-- so it does of each disk that stood on a shelf, if the shelf told the images of these
abbrev pub KeepsBodies : ShelfTold → ShelfTold → Type 0
KeepsBodies old new = (images : List ℕ → List ℕ) → Tells old images → (name : List ℕ) → old.taken_at name ≡ None → LeavesBodies name old new

-- the fault is that of a disk, or of the shelf
abbrev pub IsOfDisk : TrailFault → Type 0
IsOfDisk (f.DiskFailed unit) = Unit {0}
IsOfDisk _ = ⊥

-- the unit that a fault names, if it names one, is one of so many
abbrev pub IsOfUnits : ℕ → TrailFault → Type 0
IsOfUnits units (f.DiskFailed unit) = unit.0 < units
IsOfUnits units (f.Foreign unit kept wanted) = unit.0 < units
IsOfUnits units (f.Bad unit at first) = unit.0 < units
IsOfUnits units _ = Unit {0}
