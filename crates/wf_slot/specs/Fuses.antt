-- Inner. A disk that is to fail just where a fuse says.
use Rattle.std.specs.Prelude.{◌≡◌, ℕ, ◌+◌, ◌<◌, ◌≤◌, Bool, true, false, Option, Some, None, option_map}
use Rattle.wf_disk.specs.declared.arm.Arm.{Arm}
use Rattle.wf_disk.specs.declared.arm.Arm.TheVariants.{Fail, Crash}
use Rattle.wf_model.specs.Faults.{last_count}
use Rattle.wf_disk.specs.Disk.{Told}
use Rattle.wf_machine.specs.Strokes.{Fuse}
use Rattle.wf_slot.specs.declared.fuse.Fuse.{Fuse as Kept}

-- a fuse as the machine has it
abbrev pub fuse_of : Option Kept → Option Fuse
fuse_of fuse = option_map (λ (f : Kept). record { left = f.left; what = f.what }) fuse

-- a crash stops a disk
abbrev pub is_crash : Arm → Bool
is_crash Fail = false
is_crash (Crash outcome) = true

-- no stroke to come is to fail
pub record IsUnarmed (disk : Told) : Type 0 where
  pub none : (n : ℕ) → disk.clock < n → n ≤ last_count → disk.is_to_fail n → ⊥

-- of the strokes to come the one that the fuse counts is to fail, and no other; and it is to stop the disk just if the fuse is a crash
pub record IsArmed (disk : Told) (f : Fuse) : Type 0 where
  pub later : 1 ≤ f.left
  pub due : disk.is_to_fail (disk.clock + f.left)
  pub only : (n : ℕ) → disk.clock < n → n ≤ last_count → disk.is_to_fail n → n ≡ disk.clock + f.left
  pub stops : is_crash f.what ≡ true → disk.is_to_stop (disk.clock + f.left)
  pub goes_on : is_crash f.what ≡ false → disk.is_to_stop (disk.clock + f.left) → ⊥

-- A DISK AND ITS FUSE
abbrev pub IsFused : Told → Option Fuse → Type 0
IsFused disk None = IsUnarmed disk
IsFused disk (Some f) = IsArmed disk f
