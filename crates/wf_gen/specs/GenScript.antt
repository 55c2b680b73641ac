-- The script that is generated from a number.
use Rattle.std.specs.Prelude.{ℕ, zero, suc, ◌++◌, List, []}
use Rattle.std.specs.Fmt.{decimal}
use lib.Chars.{codes}
use Rattle.wf_gen.specs.Draws.{draw}

-- request q at unit d, of that unit's event
abbrev pub admit_line : ℕ → ℕ → List ℕ
admit_line d q = codes "admit u" ++ decimal d ++ codes " " ++ decimal q ++ codes " event e" ++ decimal d ++ codes "\n"

-- an admission at the unit that draw q from x on gives, and a round
abbrev pub admit_and_round : ℕ → ℕ → List ℕ
admit_and_round x q = admit_line (draw x q 3) q ++ codes "round\n"

-- the first so many of these, from 1 on
unfoldable pub admissions : ℕ → ℕ → List ℕ
admissions x zero = []
admissions x (suc q) = admissions x q ++ admit_and_round x (suc q)

-- a thousand admissions, each with a round, and four rounds more
unfoldable pub gen_script : ℕ → List ℕ
gen_script x = admissions x 1000 ++ codes "round\nround\nround\nround\n"
