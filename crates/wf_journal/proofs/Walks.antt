-- The bodies of the walk, without the places of their frames.
use Rattle.std.proofs.Common.{◌≡◌, ℕ, zero, suc, ◌+◌, Bool, true, false, ◌&&◌, ◌==◌, if◌then◌else◌, List, [], ◌∷◌, take, map, refl, ap}
use Rattle.wf_journal.specs.Frames.{open_gate, header, Frame, number_of, fits, frames_after, frames_at, bodies_of}

abbrev pub bodies_after : ℕ → List ℕ → List (List ℕ)
bodies_after (suc skip) (byte ∷ file) = bodies_after skip file
bodies_after zero (gate ∷ a ∷ b ∷ c ∷ d ∷ rest) =
    if (gate == open_gate) && fits (number_of a b c d) rest then take (number_of a b c d) rest ∷ bodies_after (number_of a b c d) rest else []
bodies_after skip file = []

-- they are those of its frames, whatever place is the first
bodies-frames : (at skip : ℕ) (file : List ℕ) → map (λ (frame : Frame). frame.body) (frames_after at skip file) ≡ bodies_after skip file
bodies-frames at (suc skip) [] = refl
bodies-frames at (suc skip) (byte ∷ file) = bodies-frames (at + 1) skip file
bodies-frames at zero [] = refl
bodies-frames at zero (gate ∷ []) = refl
bodies-frames at zero (gate ∷ a ∷ []) = refl
bodies-frames at zero (gate ∷ a ∷ b ∷ []) = refl
bodies-frames at zero (gate ∷ a ∷ b ∷ c ∷ []) = refl
bodies-frames at zero (gate ∷ a ∷ b ∷ c ∷ d ∷ rest) = go ((gate == open_gate) && fits (number_of a b c d) rest) (bodies-frames (at + header) (number_of a b c d) rest)
  where
    go : (whole : Bool) → map (λ (frame : Frame). frame.body) (frames_after (at + header) (number_of a b c d) rest) ≡ bodies_after (number_of a b c d) rest
        → map (λ (frame : Frame). frame.body) (if whole then record { place = at; body = take (number_of a b c d) rest } ∷ frames_after (at + header) (number_of a b c d) rest else [])
        ≡ (if whole then take (number_of a b c d) rest ∷ bodies_after (number_of a b c d) rest else [])
    go true more = ap (λ l. take (number_of a b c d) rest ∷ l) more
    go false more = refl

pub bodies_of-walk : (file : List ℕ) → bodies_of file ≡ bodies_after 0 file
unfolding bodies_of frames_at
bodies_of-walk file = bodies-frames 0 0 file
