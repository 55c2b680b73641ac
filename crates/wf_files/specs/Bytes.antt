-- Of other calls. What a file that tells its bytes holds after a read or a write.
use Rattle.std.specs.Prelude.{◌≡◌, ◌≤◌, ℕ, List, length, take, drop, Option, Some, IfSome}
use Rattle.wf_disk.specs.Disk.{put_at}

-- the first n of these bytes are those that were held from this place on
abbrev pub IsRead : Option (List ℕ) → ℕ → ℕ → List ℕ → Type 0
IsRead held at n bytes = IfSome held (λ file. take n bytes ≡ take n (drop at file))

-- these bytes were written over what was held from this place on, which doesn't lie past the end
abbrev pub IsPut : Option (List ℕ) → Option (List ℕ) → ℕ → List ℕ → Type 0
IsPut before now at bytes = IfSome before (λ file. at ≤ length file → now ≡ Some (put_at file at bytes))
