-- Of other calls. A shelf of disks in memory, and what it tells.
use Rattle.std.specs.Prelude.{ℕ, List, [], Option, None, Some}
use Rattle.wf_disk.specs.Memory.{Held, image_of, told_of as told_of_disk}
use Rattle.wf_disk.specs.Shelf.{ShelfTold}
use Rattle.wf_shelf.specs.declared.place.Place.{Place}
use Rattle.wf_shelf.specs.Places.{place_of, standing}

-- a shelf of disks in memory, as its callers see it
pub record Shelved : Type 0 where
  -- the disks by their names, and the places of those that are out
  pub places : List Place
  pub faults : ℕ

-- no disk yet
abbrev pub new_shelf : Shelved
new_shelf = record { places = []; faults = 0 }

-- the disk of this name, unless it is out
abbrev pub disk_of : List ℕ → Shelved → Option Held
disk_of name shelf = standing (place_of name shelf.places)

-- the bytes of a disk, unless it is out
abbrev pub image_at : Option Held → Option (List ℕ)
image_at None = None
image_at (Some disk) = Some (image_of disk)

-- what a crash now may leave of it: anything, if it is out
abbrev pub may_leave_at : Option Held → List ℕ → Type 0
may_leave_at None c = Unit {0}
may_leave_at (Some disk) c = (told_of_disk disk).may_leave c

-- what a crash since this moment may have left of it: anything, if it is out
abbrev pub left_at : ℕ → Option Held → List ℕ → Type 0
left_at moment None c = Unit {0}
left_at moment (Some disk) c = (told_of_disk disk).left_since moment c

-- the same since it was taken last; nothing, if it never was
abbrev pub left_from : Option Place → List ℕ → Type 0
left_from None c = ⊥
left_from (Some place) c = left_at place.taken_at place.disk c

-- the moment at which a disk was taken, if it is out
abbrev pub moment_if_out : Option Held → ℕ → Option ℕ
moment_if_out None moment = Some moment
moment_if_out (Some disk) moment = None

-- the same at a place
abbrev pub taken_from : Option Place → Option ℕ
taken_from None = None
taken_from (Some place) = moment_if_out place.disk place.taken_at

-- what it tells as a shelf
abbrev pub told_of : Shelved → ShelfTold
told_of shelf = record {
  image = λ name. image_at (disk_of name shelf);
  may_leave = λ name c. may_leave_at (disk_of name shelf) c;
  taken_at = λ name. taken_from (place_of name shelf.places);
  left_between = λ name c. left_from (place_of name shelf.places) c;
  faults = shelf.faults;
}
