-- Inner. What is left of a number of nodes.
use Rattle.std.specs.Prelude.{ℕ, ◌-◌, nat_le, if◌then◌else◌, Option, Some, None}

-- how many of `most` nodes are left beside n of them, if there are so many
abbrev pub room : ℕ → ℕ → Option ℕ
room most n = if nat_le n most then Some (most - n) else None
