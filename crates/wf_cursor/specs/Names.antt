-- The names that are declared, each with what it is.
use Rattle.std.specs.Prelude.{ℕ, List, Option}
use Rattle.std.specs.Str.{bytes_eq}
use Rattle.std.specs.Map.{lookup}
use Rattle.wf_cursor.specs.declared.names.Declared.{Declared}

-- what the name is declared as, if it is: the first that fits
abbrev pub declared_as : List (List ℕ × Declared) → List ℕ → Option Declared
declared_as names name = lookup (bytes_eq name) names
