-- The line of a refusal.
use Rattle.std.specs.Prelude.{ℕ, ◌++◌, List}
use lib.Chars.{codes}

abbrev pub refusal : List ℕ → List ℕ
refusal cause = codes "refused " ++ cause ++ codes "\n"
