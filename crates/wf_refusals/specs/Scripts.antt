-- The lines of a script that isn't run.
use Rattle.std.specs.Prelude.{ℕ, ◌++◌, List}
use Rattle.std.specs.Fmt.{decimal}
use lib.Chars.{codes}
use Rattle.wf_refusals.specs.Lines.{refusal}

-- script line LINE, the first that is outside the grammar
unfoldable pub script_line : ℕ → List ℕ
script_line line = refusal (codes "script line " ++ decimal line)

-- the script has too many lines
unfoldable pub too_many_lines : List ℕ
too_many_lines = refusal (codes "limit lines")

-- its text would be too long
unfoldable pub too_long_report : List ℕ
too_long_report = refusal (codes "limit report")
