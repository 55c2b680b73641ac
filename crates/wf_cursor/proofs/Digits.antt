-- A number that stays at the greatest one once it is there.
use Rattle.std.proofs.Common.{◌≡◌, ℕ, ◌+◌, ◌*◌, min, arith}

pub digit_more : (most number kept digit : ℕ) → kept ≡ min number most → min (min (kept * 10) most + digit) most ≡ min (number * 10 + digit) most
digit_more most number kept digit e = omega arith
