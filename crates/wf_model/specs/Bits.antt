-- Of other calls. Bits by number.
use Rattle.std.specs.Prelude.{ℕ, Bool, false, List, slice_index_or}

-- whether this bit is set; one past the end isn't
abbrev pub bit : List Bool → ℕ → Bool
bit bits at = slice_index_or bits at false
