-- How much of its disk's room an append uses.
use Rattle.std.proofs.Common.{◌≡◌, ℕ, ◌+◌, List, [], ◌∷◌, ◌++◌, length, arith, subst}
use Rattle.wf_disk.specs.Disk.{Told, IsLawful}
use Rattle.wf_journal.specs.Frames.{packed}
use Rattle.wf_journal.specs.Room.{UsesRoom}
use Rattle.wf_journal.proofs.Puts.{frame_size}

-- what a write of n bytes says of the room
abbrev pub Writes : Told → Told → ℕ → Type 0 → Type 0
Writes old new n done = (writes rest : ℕ) → old.has_room (writes + 1) (rest + n) → done × new.has_room writes rest

-- after the write of a frame behind its gate, there is room for that of the gate
staged : (old new : Told) (body frame : List ℕ) {done : Type 0} → frame ≡ packed body ++ 0 ∷ [] → Writes old new (length frame) done → (writes bytes : ℕ)
    → old.has_room (writes + 2) (bytes + (length body + 6)) → new.has_room (writes + 1) (bytes + 1)
staged old new body frame is write writes bytes room =
    let size = frame_size body frame is in
    let of_writes : writes + 2 ≡ writes + 1 + 1 = omega arith in
    let of_bytes : bytes + (length body + 6) ≡ bytes + 1 + length frame = omega (arith, size) in
    (write (writes + 1) (bytes + 1) (subst (λ n. old.has_room n (bytes + 1 + length frame)) of_writes (subst (λ n. old.has_room (writes + 2) n) of_bytes room))).1

-- an append that ends there uses less than a whole one
pub used_staged : (old new : Told) (body frame : List ℕ) {done : Type 0} → IsLawful new → frame ≡ packed body ++ 0 ∷ [] → Writes old new (length frame) done → UsesRoom old new 2 (length body + 6)
used_staged old new body frame law is write writes bytes room = law.less writes 1 bytes 1 (staged old new body frame is write writes bytes room)

-- a whole one writes the gate too
pub used_opened : (old mid synced new : Told) (body frame : List ℕ) {done opened : Type 0} → frame ≡ packed body ++ 0 ∷ [] → Writes old mid (length frame) done
    → ((writes bytes : ℕ) → mid.has_room writes bytes → synced.has_room writes bytes) → Writes synced new 1 opened → UsesRoom old new 2 (length body + 6)
used_opened old mid synced new body frame is write kept open_gate writes bytes room =
    (open_gate writes bytes (kept (writes + 1) (bytes + 1) (staged old mid body frame is write writes bytes room))).1
