-- What the lines of a script come to: no more than the script has, and no want of memory.
use Rattle.std.proofs.Common.{◌≡◌, ◌≤◌, ℕ, ◌+◌, List, [], ◌∷◌, length, Option, Some, None, Result, Ok, Err, arith, subst}
use Rattle.wf_model.specs.Steps.{both}
use Rattle.wf_model.specs.declared.chart.Chart.{Chart}
use Rattle.wf_scripts.specs.declared.script.ScriptFault.{ScriptFault}
use Rattle.wf_scripts.specs.declared.script.ScriptFault.TheVariants as faults
use Rattle.wf_scripts.specs.Lines.{lines_of}
use Rattle.wf_scripts.specs.Names.{Finder, names_of}
use Rattle.wf_scripts.specs.Script.{Says, or_refused, said_in, line_by, with_line, lines_from, script_by}
use Rattle.wf_lex.specs.Lex.{line_tokens_of}

-- no want of memory
abbrev pub IsNamed : {A : Type 0} → Result A ScriptFault → Type 0
IsNamed (Ok found) = Unit {0}
IsNamed (Err (faults.Refused number)) = Unit {0}
IsNamed (Err faults.NoMemory) = ⊥

or_refused_named : {A : Type 0} (number : ℕ) (said : Option A) → IsNamed (or_refused number said)
or_refused_named number None = tt
or_refused_named number (Some said) = tt

line_named : {L : Type 0} (says : Says L) (names : Finder) (number : ℕ) (line : List ℕ) → IsNamed (line_by says names number line)
unfolding line_by
line_named says names number line = or_refused_named number (said_in says names line (line_tokens_of line))

both_named : {L : Type 0} (number : ℕ) (said : Result (Option L) ScriptFault) (more : Result (List (ℕ × L)) ScriptFault) → IsNamed said → IsNamed more
    → IsNamed (both (λ said more. Ok (with_line number said more)) said more)
both_named number (Err (faults.Refused n)) more first second = tt
both_named number (Err faults.NoMemory) more first second = absurd first
both_named number (Ok said) (Err (faults.Refused n)) first second = tt
both_named number (Ok said) (Err faults.NoMemory) first second = absurd second
both_named number (Ok said) (Ok more) first second = tt

lines_named : {L : Type 0} (says : Says L) (names : Finder) (number : ℕ) (lines : List (List ℕ)) → IsNamed (lines_from says names number lines)
lines_named says names number [] = tt
lines_named says names number (line ∷ lines) =
    both_named number (line_by says names number line) (lines_from says names (number + 1) lines) (line_named says names number line) (lines_named says names (number + 1) lines)

pub script_named : {L : Type 0} (says : Says L) (chart : Chart) (script : List ℕ) → IsNamed (script_by says chart script)
unfolding script_by
script_named says chart script = lines_named says (names_of chart) 1 (lines_of script)

-- so many lines at most
abbrev pub IsShort : {L : Type 0} → ℕ → Result (List (ℕ × L)) ScriptFault → Type 0
IsShort most (Ok lines) = length lines ≤ most
IsShort most (Err fault) = Unit {0}

with_line_short : {L : Type 0} (number most : ℕ) (said : Option L) (more : List (ℕ × L)) → length more ≤ most → length (with_line number said more) ≤ most + 1
with_line_short number most None more short = omega (arith, short)
with_line_short number most (Some line) more short = omega (arith, short)

both_short : {L : Type 0} (number most : ℕ) (said : Result (Option L) ScriptFault) (more : Result (List (ℕ × L)) ScriptFault) → IsShort most more
    → IsShort (most + 1) (both (λ said more. Ok (with_line number said more)) said more)
both_short number most (Err fault) more short = tt
both_short number most (Ok said) (Err fault) short = tt
both_short number most (Ok said) (Ok more) short = with_line_short number most said more short

lines_short : {L : Type 0} (says : Says L) (names : Finder) (number : ℕ) (lines : List (List ℕ)) → IsShort (length lines) (lines_from says names number lines)
lines_short says names number [] = omega arith
lines_short says names number (line ∷ lines) =
    let long : length lines + 1 ≡ length (line ∷ lines) = omega arith in
    subst (λ (n : ℕ). IsShort n (lines_from says names number (line ∷ lines))) long
    (both_short number (length lines) (line_by says names number line) (lines_from says names (number + 1) lines) (lines_short says names (number + 1) lines))

-- a script has no fewer lines than those that say something
pub script_short : {L : Type 0} (says : Says L) (chart : Chart) (script : List ℕ) (lines : List (ℕ × L)) → script_by says chart script ≡ Ok lines → length lines ≤ length (lines_of script)
unfolding script_by
script_short says chart script lines is =
    subst (IsShort (length (lines_of script))) is (lines_short says (names_of chart) 1 (lines_of script))
