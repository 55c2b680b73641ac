-- Of the laws. A journal's bytes in the words of the format.
use Rattle.std.specs.Prelude.{ℕ, ◌≤◌, ◌<◌, List, ◌∷◌, length, flat_map, All}
use Rattle.wf_model.specs.Limits.{max_body}
use Rattle.wf_journal.specs.Frames.{open_gate, packed}

-- what may be a body: 1 to max_body bytes
pub record IsBody (body : List ℕ) : Type 0 where
  pub some : 1 ≤ length body
  pub most : length body ≤ max_body

-- an open gate, the length and the body
abbrev pub frame_of : List ℕ → List ℕ
frame_of body = open_gate ∷ packed body

-- the frames of bodies, one behind the other
abbrev pub frames_of : List (List ℕ) → List ℕ
frames_of bodies = flat_map frame_of bodies

-- each number is a byte
abbrev pub AreBytes : List ℕ → Type 0
AreBytes file = All (λ byte. byte < 256) file
