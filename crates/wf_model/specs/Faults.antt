-- Counts of faults, by which a source, a sink or a disk shows that it failed.
use Rattle.std.specs.Prelude.{ℕ, ◌+◌, ◌-◌, ◌^◌, ◌≤◌, min}

-- the greatest count, at which it stays
abbrev pub last_count : ℕ
last_count = 2 ^ 64 - 1

-- one fault more
abbrev pub one_more : ℕ → ℕ
one_more count = min (count + 1) last_count

-- the count rose in a call: it is greater at the end than before, or stands at its greatest value
abbrev pub Rose : ℕ → ℕ → Type 0
Rose before now = one_more before ≤ now
