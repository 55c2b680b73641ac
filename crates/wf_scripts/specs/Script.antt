-- A script by its grammar: what its lines say, or its first line outside the grammar.
use Rattle.std.specs.Prelude.{ℕ, ◌+◌, List, [], ◌∷◌, Option, Some, None, Result, Ok, Err}
use Rattle.wf_model.specs.Steps.{both}
use Rattle.wf_model.specs.declared.chart.Chart.{Chart}
use Rattle.wf_lex.specs.declared.token.Token.{Token}
use Rattle.wf_lex.specs.declared.token.LexFault.{LexFault}
use Rattle.wf_lex.specs.Lex.{line_tokens_of}
use Rattle.wf_scripts.specs.declared.script.ScriptFault.{ScriptFault}
use Rattle.wf_scripts.specs.declared.script.ScriptFault.TheVariants as faults
use Rattle.wf_scripts.specs.Lines.{lines_of}
use Rattle.wf_scripts.specs.Names.{Finder, names_of}

-- A grammar of lines: what the tokens of a line say, by the names of a chart. None is outside the grammar; a line may be in it and say nothing.
abbrev pub Says : Type 0 → Type 0
Says L = Finder → List ℕ → List Token → Option (Option L)

-- LINES

-- what the line says, where it is in the grammar
abbrev pub said_in : {L : Type 0} → Says L → Finder → List ℕ → Result (List Token) LexFault → Option (Option L)
said_in says names line (Ok tokens) = says names line tokens
said_in says names line (Err fault) = None

-- a line that isn't in the grammar is refused by its number
abbrev pub or_refused : {A : Type 0} → ℕ → Option A → Result A ScriptFault
or_refused number None = Err (faults.Refused number)
or_refused number (Some said) = Ok said

-- the line with this number
unfoldable pub line_by : {L : Type 0} → Says L → Finder → ℕ → List ℕ → Result (Option L) ScriptFault
line_by says names number line = or_refused number (said_in says names line (line_tokens_of line))

-- SCRIPTS

-- these lines, and before them the one with this number, if it says something
abbrev pub with_line : {L : Type 0} → ℕ → Option L → List (ℕ × L) → List (ℕ × L)
with_line number None more = more
with_line number (Some line) more = (number, line) ∷ more

-- the lines from this number on, or the first that is refused
abbrev pub lines_from : {L : Type 0} → Says L → Finder → ℕ → List (List ℕ) → Result (List (ℕ × L)) ScriptFault
lines_from says names number [] = Ok []
lines_from says names number (line ∷ lines) =
    both (λ said more. Ok (with_line number said more)) (line_by says names number line) (lines_from says names (number + 1) lines)

-- the lines of the script that say something, each with its number counted from 1; or the first line outside the grammar
unfoldable pub script_by : {L : Type 0} → Says L → Chart → List ℕ → Result (List (ℕ × L)) ScriptFault
script_by says chart script = lines_from says (names_of chart) 1 (lines_of script)
