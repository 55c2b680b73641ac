-- Inner. How a disk in memory keeps its strokes: an entry for each, and one buffer of bytes.
use Rattle.std.specs.Prelude.{◌≡◌, ℕ, ◌+◌, ◌<◌, ◌≤◌, List, [], ◌∷◌, length, take, drop}
use Rattle.wf_disk.specs.declared.entry.Entry.{Entry}
use Rattle.wf_disk.specs.declared.entry.Entry.TheVariants as entry
use Rattle.wf_disk.specs.Strokes.{Stroke, Range}

-- how many bytes these entries have
abbrev pub total : List Entry → ℕ
total [] = 0
total (entry.Wrote at len ∷ entries) = len + total entries
total (entry.Synced ∷ entries) = total entries

-- the strokes that these entries stand for, with the bytes of their writes
abbrev pub strokes_of : List Entry → List ℕ → List Stroke
strokes_of [] written = []
strokes_of (entry.Wrote at len ∷ entries) written = Stroke.Wrote at (take len written) ∷ strokes_of entries (drop len written)
strokes_of (entry.Synced ∷ entries) written = Stroke.Synced ∷ strokes_of entries written

-- the ranges that these entries write
abbrev pub ranges_in : List Entry → List Range
ranges_in [] = []
ranges_in (entry.Wrote at len ∷ entries) = record { at = at; len = len } ∷ ranges_in entries
ranges_in (entry.Synced ∷ entries) = ranges_in entries

-- a record of strokes, as the disk sees it
pub record Recorded : Type 0 where
  pub strokes : List Stroke
  -- how many of them stand up to the last sync
  pub synced : ℕ
  -- for how many bytes and for how many writes there is room
  pub bytes : ℕ
  pub writes : ℕ

-- what is true of the fields of a record
pub record IsKept (entries : List Entry) (written : List ℕ) (synced len room : ℕ) : Type 0 where
  pub filled : total entries ≡ length written
  pub counted : length entries ≡ len
  pub within : synced ≤ len
  -- there is room for the entry of the next sync
  pub spare : synced < len → len < room
