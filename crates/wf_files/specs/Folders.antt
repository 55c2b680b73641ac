-- Of other calls. What a shelf over a folder tells: which disks are out, and how often it failed.
use Rattle.std.specs.Prelude.{ℕ, Bool, List, [], None, Some, if◌then◌else◌}
use Rattle.std.specs.List.{list_any}
use Rattle.std.specs.Str.{bytes_eq}
use Rattle.wf_disk.specs.Shelf.{ShelfTold}

-- a shelf over a folder, as its callers see it
pub record OnFolder : Type 0 where
  -- the names of the disks that are out
  pub out : List (List ℕ)
  pub faults : ℕ

-- no disk is out
abbrev pub new_folder : OnFolder
new_folder = record { out = []; faults = 0 }

-- the disk of this name is out
abbrev pub is_out : List ℕ → OnFolder → Bool
is_out name shelf = list_any (λ other. bytes_eq other name) shelf.out

-- what it tells as a shelf
abbrev pub told_of : OnFolder → ShelfTold
told_of shelf = record {
  image = λ name. None;
  may_leave = λ name c. Unit {0};
  taken_at = λ name. if is_out name shelf then Some 0 else None;
  left_between = λ name c. Unit {0};
  faults = shelf.faults;
}
