-- Of other calls. What a start finds and leaves, wherever the disk told its image before.
use Rattle.std.specs.Prelude.{◌≡◌, ℕ, ◌+◌, ◌<◌, ◌≤◌, true, false, nat_lt, if◌then◌else◌, List, [], ◌∷◌, length, Option, None, Some}
use Rattle.wf_disk.specs.Disk.{Told, LeavesOnly}
use Rattle.wf_journal.specs.Frames.{closed_gate, is_broken, end_of}
use Rattle.wf_journal.specs.Journal.{HasBodiesOf, IsPlace}

-- how many strokes a start makes at most: it makes a new journal on a disk of fewer than two bytes
abbrev pub start_strokes : Option (List ℕ) → ℕ
start_strokes None = 3
start_strokes (Some file) = if nat_lt (length file) 2 then 3 else 1

-- so many it makes if it is done
abbrev pub TakesStrokes : Told → Told → Type 0
TakesStrokes old new = (file : List ℕ) → old.image ≡ Some file → new.clock ≡ old.clock + (if nat_lt (length file) 2 then 3 else 1)

-- of a file of two bytes or more each open gate has a whole frame behind it
abbrev pub IsWhole : Told → Type 0
IsWhole old = (file : List ℕ) → old.image ≡ Some file → 2 ≤ length file → is_broken file ≡ false

-- a file of two bytes or more has an open gate at this place with no whole frame behind it, and is left as it is
abbrev pub IsBadAt : Told → Told → ℕ → Type 0
IsBadAt old new at = (file : List ℕ) → old.image ≡ Some file → (2 ≤ length file × (is_broken file ≡ true) × (end_of file ≡ at) × (new.image ≡ Some file))

-- a file of fewer bytes was made a new journal: one closed gate
abbrev pub IsMade : Told → Told → Type 0
IsMade old new = (file : List ℕ) → old.image ≡ Some file → length file < 2 → new.image ≡ Some (closed_gate ∷ [])

-- a crash in between leaves the bodies of an image that a crash just before may have left, and a journal starts again
-- if it would have on that one
abbrev pub LeavesStart : Told → Told → Type 0
LeavesStart old new = (file : List ℕ) → old.image ≡ Some file → LeavesOnly old new (HasBodiesOf old.may_leave)

-- reading can begin at place 0
abbrev pub CanBeRead : Told → Type 0
CanBeRead disk = (file : List ℕ) → disk.image ≡ Some file → IsPlace file 0
