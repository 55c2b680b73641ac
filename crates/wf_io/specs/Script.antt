-- Of other calls. A clock that gives the moments of a list.
use Rattle.std.specs.Prelude.{◌≡◌, ℤ, List, Option, Some, drop, length, nat_lt, slice_get, if◌then◌else◌}

-- the moments to come, of which the last comes again and again, and the last that was given
pub record Script : Type 0 where
  pub coming : List ℤ
  pub last : Option ℤ

-- the moments to come after the next
abbrev pub coming_after : List ℤ → List ℤ
coming_after coming = if nat_lt 1 (length coming) then drop 1 coming else coming

-- the clock gives the first moment to come, and keeps those after it
pub record GivesNext (before after : Script) (moment : ℤ) : Type 0 where
  pub first : slice_get before.coming 0 ≡ Some moment
  pub rest : after.coming ≡ coming_after before.coming
  pub given : after.last ≡ Some moment
