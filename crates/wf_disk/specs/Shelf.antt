-- Of other calls. A shelf of named disks, and what it is for a disk to be moved.
use Rattle.std.specs.Prelude.{◌≡◌, ◌⊎◌, ◌≤◌, ◌<◌, ℕ, List, Option, None, Some}
use Rattle.wf_model.specs.Faults.{Rose}
use Rattle.wf_disk.specs.Disk.{Told, Within, Only}

-- A shelf at one moment. A disk that was taken and not given back since is out; each other one stands on the shelf.
pub record ShelfTold : Type 1 where
  -- the bytes of the disk of a name, where they are told
  pub image : List ℕ → Option (List ℕ)
  -- the images that a crash now may leave of it
  pub may_leave : List ℕ → List ℕ → Type 0
  -- where it is out, its moment as it was taken
  pub taken_at : List ℕ → Option ℕ
  -- the images of it that a crash may have left at some moment from its last take to its return
  pub left_between : List ℕ → List ℕ → Type 0
  -- how often the shelf has failed, and how often it got a disk back that had failed
  pub faults : ℕ

-- a crash leaves of this disk what a read gives
abbrev pub HasNothingUnsynced : ShelfTold → List ℕ → Type 0
HasNothingUnsynced shelf name = (file : List ℕ) → shelf.image name ≡ Some file → Only file (shelf.may_leave name)

-- the disk of this name stays as it was
pub record KeepsDisk (name : List ℕ) (old new : ShelfTold) : Type 0 where
  pub image : new.image name ≡ old.image name
  pub crash : Within (new.may_leave name) (old.may_leave name)
  pub crash_kept : Within (old.may_leave name) (new.may_leave name)
  pub taken_at : new.taken_at name ≡ old.taken_at name
  pub past : Within (new.left_between name) (old.left_between name)
  pub past_kept : Within (old.left_between name) (new.left_between name)

-- the disk of this name goes out, as the shelf told it, with its count of faults begun anew
pub record IsTaken (name : List ℕ) (old new : ShelfTold) (disk : Told) : Type 0 where
  pub stood : old.taken_at name ≡ None
  pub out : new.taken_at name ≡ Some disk.moment
  pub image : disk.image ≡ old.image name
  pub crash : Within disk.may_leave (old.may_leave name)
  pub crash_kept : Within (old.may_leave name) disk.may_leave
  pub no_faults : disk.faults ≡ 0

-- this disk stands on the shelf from now on, under this name
pub record IsGiven (name : List ℕ) (old new : ShelfTold) (disk : Told) : Type 0 where
  pub stands : new.taken_at name ≡ None
  pub image : new.image name ≡ disk.image
  pub crash : Within (new.may_leave name) disk.may_leave
  pub crash_kept : Within disk.may_leave (new.may_leave name)
  -- what a crash may have left since it was taken
  pub past : (t : ℕ) → old.taken_at name ≡ Some t → Within (new.left_between name) (disk.left_since t)
  pub past_kept : (t : ℕ) → old.taken_at name ≡ Some t → Within (disk.left_since t) (new.left_between name)

-- the shelf's count of faults doesn't fall, it rose at a failure, and without one it is as before
pub record ShelfHasCause (old new : ShelfTold) (failure : Type 0) : Type 0 where
  pub later : old.faults ≤ new.faults
  pub rose : failure → Rose old.faults new.faults
  pub kept : (failure → ⊥) → new.faults ≡ old.faults

-- a return fails if the shelf says so, or if the disk that comes back had failed
abbrev pub FailsAtReturn : Type 0 → Told → Type 0
FailsAtReturn refused disk = refused ⊎ (0 < disk.faults)
