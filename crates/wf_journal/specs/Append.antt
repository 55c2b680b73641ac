-- Of other calls. What an append leaves, wherever the disk told its image before.
use Rattle.std.specs.Prelude.{◌≡◌, ℕ, ◌+◌, List, [], ◌∷◌, ◌++◌, Some}
use Rattle.wf_disk.specs.Disk.{Told, put_at, LeavesOnly}
use Rattle.wf_journal.specs.Frames.{open_gate, closed_gate, packed, bodies_of, IsAsBefore, IsBeforeOrAfter}

-- a file with its closed gate at this place, after one more frame: behind the gate its length, its body and a closed
-- gate were written, and then the gate was opened
abbrev pub appended : List ℕ → ℕ → List ℕ → List ℕ
appended file place body = put_at (put_at file (place + 1) (packed body ++ closed_gate ∷ [])) place (open_gate ∷ [])

-- the frame was written at this place, and no other byte
abbrev pub IsWritten : Told → Told → ℕ → List ℕ → Type 0
IsWritten old new place body = (file : List ℕ) → old.image ≡ Some file → new.image ≡ Some (appended file place body)

-- a crash in between leaves the bodies as they were, or those and this one
abbrev pub LeavesBeforeOrAfter : Told → Told → List ℕ → Type 0
LeavesBeforeOrAfter old new body = (file : List ℕ) → old.image ≡ Some file → LeavesOnly old new (IsBeforeOrAfter (bodies_of file) body)

-- a crash in between leaves the bodies as they were
abbrev pub LeavesBefore : Told → Told → Type 0
LeavesBefore old new = (file : List ℕ) → old.image ≡ Some file → LeavesOnly old new (IsAsBefore (bodies_of file))
