-- What a shelf tells after a take, a return and a refusal.
use Rattle.std.proofs.Common.{◌≡◌, ◌≢◌, ℕ, ◌+◌, ◌<◌, ◌≤◌, Bool, true, false, cond, List, [], ◌∷◌, ◌++◌, length, find, position, Option, Some, None, slice_set, option_map, nat_lt, refl, sym, ap, subst, arith, ◌∙◌}
use Rattle.wf_disk.specs.Memory.{Held, new_disk, IsButForRoom, told_of as told_of_disk}
use Rattle.wf_disk.specs.Shelf.{KeepsDisk, IsTaken, IsGiven}
use Rattle.wf_shelf.specs.declared.place.Place.{Place}
use Rattle.wf_shelf.specs.Places.{is_named, place_of, emptied, handed, handed_from, taken_last, new_place, standing}
use Rattle.wf_shelf.specs.Shelves.{Shelved, disk_of, image_at, may_leave_at, left_from, moment_if_out, taken_from, told_of}

-- A DISK WHOSE PLACE IS AS BEFORE is kept.
pub keeps : (name : List ℕ) (old new : Shelved) → place_of name new.places ≡ place_of name old.places → KeepsDisk name (told_of old) (told_of new)
keeps name old new same = record {
  image = ap (λ place. image_at (standing place)) same;
  crash = λ c left. subst (λ place. may_leave_at (standing place) c) same left;
  crash_kept = λ c left. subst (λ place. may_leave_at (standing place) c) (sym same) left;
  taken_at = ap taken_from same;
  past = λ c left. subst (λ place. left_from place c) same left;
  past_kept = λ c left. subst (λ place. left_from place c) (sym same) left;
}

-- a disk that stands at a place goes out, but for its faults and its room
goes : (name : List ℕ) (old new : Shelved) (held : Held) (disk : Held)
    → taken_from (place_of name old.places) ≡ None → disk_of name old ≡ Some held → taken_from (place_of name new.places) ≡ Some (length held.strokes)
    → IsButForRoom (record held { faults = 0 }) disk → IsTaken name (told_of old) (told_of new) (told_of_disk disk)
goes name old new held disk stood stands out is =
    let with_room : Held = record held { faults = 0; room = disk.room; writes = disk.writes } in
    let taken : IsTaken name (told_of old) (told_of new) (told_of_disk with_room) = record {
      stood = stood;
      out = out;
      image = sym (ap image_at stands);
      crash = λ c left. subst (λ disk. may_leave_at disk c) (sym stands) left;
      crash_kept = λ c left. subst (λ disk. may_leave_at disk c) stands left;
      no_faults = refl;
    } in
    subst (λ disk. IsTaken name (told_of old) (told_of new) (told_of_disk disk)) (sym is) taken

takes_held : (name : List ℕ) (old new : Shelved) (was : Place) (d : Option Held) (disk : Held) → place_of name old.places ≡ Some was → was.disk ≡ d
    → place_of name new.places ≡ Some (emptied was) → Some disk ≡ handed d → IsTaken name (told_of old) (told_of new) (told_of_disk disk)
takes_held name old new was None disk found here after is = cc
takes_held name old new was (Some held) disk found here after is =
    let same : disk ≡ record held { faults = 0 } = cc in
    goes name old new held disk
    (ap taken_from found ∙ ap (λ d. moment_if_out d was.taken_at) here)
    (ap standing found ∙ here)
    (ap taken_from after ∙ ap (λ d. Some (taken_last d was.taken_at)) here)
    (subst (λ d. IsButForRoom (record held { faults = 0 }) d) (sym same) refl)

takes_from : (name : List ℕ) (old new : Shelved) (o : Option Place) (disk : Held) → place_of name old.places ≡ o
    → place_of name new.places ≡ option_map emptied o → Some disk ≡ handed_from o → IsTaken name (told_of old) (told_of new) (told_of_disk disk)
takes_from name old new None disk found after is = cc
takes_from name old new (Some was) disk found after is = takes_held name old new was was.disk disk found refl after is

-- A DISK THAT STOOD ON THE SHELF goes out as it was told.
pub takes : (name : List ℕ) (old new : Shelved) (disk : Held) → place_of name new.places ≡ option_map emptied (place_of name old.places)
    → Some disk ≡ handed_from (place_of name old.places) → IsTaken name (told_of old) (told_of new) (told_of_disk disk)
takes name old new disk after is = takes_from name old new (place_of name old.places) disk refl after is

-- A NEW DISK goes out as an empty one was told.
pub takes_new : (name : List ℕ) (old new : Shelved) (disk : Held) → place_of name old.places ≡ None → place_of name new.places ≡ Some (new_place name)
    → IsButForRoom new_disk disk → IsTaken name (told_of old) (told_of new) (told_of_disk disk)
takes_new name old new disk none after is = goes name old new new_disk disk (ap taken_from none) (ap standing none) (ap taken_from after) is
