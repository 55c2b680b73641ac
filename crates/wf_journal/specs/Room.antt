-- Of other calls. What a journal's calls use of the room of its disk.
use Rattle.std.specs.Prelude.{ℕ, ◌+◌}
use Rattle.wf_disk.specs.Disk.{Told}

-- of the room that the disk had no more is gone than so many writes, of so many bytes in all
abbrev pub UsesRoom : Told → Told → ℕ → ℕ → Type 0
UsesRoom old new used_writes used_bytes = (writes bytes : ℕ) → old.has_room (writes + used_writes) (bytes + used_bytes) → new.has_room writes bytes
