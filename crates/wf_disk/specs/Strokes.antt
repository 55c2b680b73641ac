-- Of other calls. What strokes do to a disk, and what a crash may leave after them.
use Rattle.std.specs.Prelude.{◌≡◌, ◌⊎◌, ℕ, zero, suc, ◌+◌, max, Bool, true, false, ◌&&◌, nat_le, List, [], ◌∷◌, length, take, drop, replicate}
use Rattle.wf_disk.specs.Disk.{put_at, Torn}
use Rattle.wf_disk.specs.declared.arm.Outcome.{Outcome as CrashOutcome}
use Rattle.wf_disk.specs.declared.arm.Outcome.TheVariants as outcomes

-- a stroke that was done: a write of these bytes at this place, or a sync
pub data Stroke : Type 0 where
  Wrote : ℕ → List ℕ → Stroke
  Synced : Stroke

-- the image after these strokes
abbrev pub image_after : List ℕ → List Stroke → List ℕ
image_after file [] = file
image_after file (Stroke.Wrote at bytes ∷ strokes) = image_after (put_at file at bytes) strokes
image_after file (Stroke.Synced ∷ strokes) = image_after file strokes

-- a range of a disk: where it begins, and how many bytes it has
pub record Range : Type 0 where
  pub at : ℕ
  pub len : ℕ

-- the ranges that these strokes write
abbrev pub ranges_of : List Stroke → List Range
ranges_of [] = []
ranges_of (Stroke.Wrote at bytes ∷ strokes) = record { at = at; len = length bytes } ∷ ranges_of strokes
ranges_of (Stroke.Synced ∷ strokes) = ranges_of strokes

-- the image with each of these ranges full of 0xFF
abbrev pub torn_over : List ℕ → List Range → List ℕ
torn_over file [] = file
torn_over file (range ∷ ranges) = torn_over (put_at file range.at (replicate range.len 255)) ranges

-- each range begins in the image, which has so many bytes at first, and ends within the room
abbrev pub do_fit : ℕ → ℕ → List Range → Bool
do_fit n room [] = true
do_fit n room (range ∷ ranges) = (nat_le range.at n && nat_le (range.at + range.len) room) && do_fit (max n (range.at + range.len)) room ranges

-- the image with each range that these strokes write full of 0xFF
abbrev pub torn_after : List ℕ → List Stroke → List ℕ
torn_after file strokes = torn_over file (ranges_of strokes)

-- the same of the ranges that these strokes write
abbrev pub are_fit : ℕ → ℕ → List Stroke → Bool
are_fit n room strokes = do_fit n room (ranges_of strokes)

-- what a crash leaves by its outcome, where so many of these strokes stand up to the last sync
abbrev pub left_after : CrashOutcome → List ℕ → List Stroke → ℕ → List ℕ
left_after outcomes.Keep first strokes synced = image_after first strokes
left_after outcomes.Lose first strokes synced = image_after first (take synced strokes)
left_after outcomes.Torn first strokes synced = torn_after (image_after first (take synced strokes)) (drop synced strokes)

-- none of these strokes is a sync
abbrev pub are_writes : List Stroke → Bool
are_writes [] = true
are_writes (Stroke.Wrote at bytes ∷ strokes) = are_writes strokes
are_writes (Stroke.Synced ∷ strokes) = false

-- a disk between two strokes: its image, and what a crash may leave besides
pub record State : Type 1 where
  pub image : List ℕ
  pub may : List ℕ → Type 0

-- with nothing unsynced
abbrev pub first_state : List ℕ → State
first_state file = record { image = file; may = λ c. c ≡ file }

-- what a crash in this state may leave
abbrev pub Outcome : State → List ℕ → Type 0
Outcome s c = s.may c ⊎ (c ≡ s.image)

-- a stroke that was done
abbrev pub after : State → Stroke → State
after s (Stroke.Wrote at bytes) = record { image = put_at s.image at bytes; may = λ c. (d : List ℕ) × Outcome s d × Torn at (length bytes) d c }
after s Stroke.Synced = record { image = s.image; may = λ c. c ≡ s.image }

-- after these strokes
abbrev pub state_after : State → List Stroke → State
state_after s [] = s
state_after s (stroke ∷ strokes) = state_after (after s stroke) strokes

-- what a crash may have left after stroke t of these, or later
abbrev pub Since : State → ℕ → List Stroke → List ℕ → Type 0
Since s t [] c = Outcome s c
Since s zero (stroke ∷ strokes) c = Outcome s c ⊎ Since (after s stroke) zero strokes c
Since s (suc t) (stroke ∷ strokes) c = Since (after s stroke) t strokes c
