-- Numbers that are drawn one after another, all of them given by the number at the beginning.
use Rattle.std.specs.Prelude.{ℕ, zero, suc, ◌+◌, ◌*◌, ◌/◌, ◌%◌, ◌^◌}

-- the number that follows x
unfoldable pub next : ℕ → ℕ
next x = (x * 6364136223846793005 + 1442695040888963407) % 2 ^ 64

-- the number so many draws after x
unfoldable pub after : ℕ → ℕ → ℕ
after zero x = x
after (suc draws) x = next (after draws x)

-- what draw k from x on gives, below m; the first draw is draw 1
abbrev pub draw : ℕ → ℕ → ℕ → ℕ
draw x k m = after k x / 2 ^ 33 % m
