-- Lines and columns of a text, counted in bytes from 1.
use Rattle.std.specs.Prelude.{ℕ, ◌+◌, ◌==◌, Bool, List, length, take, count_by}
use Rattle.std.specs.List.{after_last}
use Rattle.wf_text.specs.declared.places.Place.{Place}

abbrev pub is_lf : ℕ → Bool
is_lf b = b == 10

-- The place of the byte with so many bytes before it: its line is one more than the LFs before it, its column one more than
-- the bytes since the last of them. A number past the end of the text stands for the end.
unfoldable pub place_of : List ℕ → ℕ → Place
place_of text at = record { line = 1 + count_by is_lf (take at text); col = 1 + length (after_last is_lf (take at text)) }
