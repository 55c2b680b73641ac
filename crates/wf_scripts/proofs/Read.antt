-- One more line of a script.
use Rattle.std.proofs.Common.{◌≡◌, ◌≢◌, ℕ, ◌+◌, List, [], ◌∷◌, ◌++◌, Option, Some, None, Result, Ok, Err, refl, sym, ◌∙◌, ap, append_assoc, append-nil}
use Rattle.wf_model.specs.Steps.{both, Gives}
use Rattle.wf_scripts.specs.declared.script.ScriptFault.{ScriptFault}
use Rattle.wf_scripts.specs.Lines.{lines_of, first_line, behind_line}
use Rattle.wf_scripts.specs.Names.{Finder}
use Rattle.wf_scripts.specs.Script.{Says, line_by, with_line, lines_from}
use Rattle.wf_scripts.specs.declared.script.ScriptFault.TheVariants as faults
use Rattle.wf_scripts.proofs.Split.{lines_of-split}

-- the lines that were read, before others whose fault stays
abbrev pub with_read : {L : Type 0} → List (ℕ × L) → Result (List (ℕ × L)) ScriptFault → Result (List (ℕ × L)) ScriptFault
with_read read (Ok more) = Ok (read ++ more)
with_read read (Err fault) = Err fault

with_line-append : {L : Type 0} (number : ℕ) (said : Option L) (read more : List (ℕ × L)) → (read ++ with_line number said []) ++ more ≡ read ++ with_line number said more
with_line-append {L} number None read more = ap (λ (l : List (ℕ × L)). l ++ more) (append-nil read)
with_line-append number (Some line) read more = append_assoc read ((number, line) ∷ []) more

with_read-more : {L : Type 0} (read : List (ℕ × L)) (number : ℕ) (said : Option L) (r : Result (List (ℕ × L)) ScriptFault)
    → with_read (read ++ with_line number said []) r ≡ with_read read (both (λ x more. Ok (with_line number x more)) (Ok said) r)
with_read-more read number said (Ok more) = ap Ok (with_line-append number said read more)
with_read-more read number said (Err fault) = refl

-- a line that is in the grammar
pub read_more : {L : Type 0} (says : Says L) (names : Finder) (number : ℕ) (read : List (ℕ × L)) (rest : List ℕ) (said : Option L) → rest ≢ []
    → line_by says names number (first_line rest) ≡ Ok said
    → with_read (read ++ with_line number said []) (lines_from says names (number + 1) (lines_of (behind_line rest))) ≡ with_read read (lines_from says names number (lines_of rest))
read_more says names number read rest said some e =
    rw (lines_of-split rest some, e) (with_read-more read number said (lines_from says names (number + 1) (lines_of (behind_line rest))))

-- a line that is refused
pub read_refused : {L : Type 0} (says : Says L) (names : Finder) (number : ℕ) (read : List (ℕ × L)) (rest : List ℕ) (fault : ScriptFault) → rest ≢ []
    → line_by says names number (first_line rest) ≡ Err fault → with_read read (lines_from says names number (lines_of rest)) ≡ Err fault
read_refused says names number read rest fault some e = rw (lines_of-split rest some, e) refl

pub gives_refused : {L : Type 0} (says : Says L) (names : Finder) (number : ℕ) (read : List (ℕ × L)) (rest line : List ℕ) (fault : ScriptFault) (whole : Result (List (ℕ × L)) ScriptFault)
    → rest ≢ [] → line ≡ first_line rest → with_read read (lines_from says names number (lines_of rest)) ≡ whole
    → Gives {A = Option L} faults.NoMemory (Err fault) (line_by says names number line) → Gives {A = List (ℕ × L)} faults.NoMemory (Err fault) whole
gives_refused says names number read rest line fault whole some first read_so refused =
    λ named. sym read_so ∙ read_refused says names number read rest fault some (rw first at (refused named))

-- and none is left
pub read_all : {L : Type 0} (says : Says L) (names : Finder) (number : ℕ) (read : List (ℕ × L)) (rest : List ℕ) → rest ≡ [] → with_read read (lines_from says names number (lines_of rest)) ≡ Ok read
read_all says names number read rest none = rw none (ap Ok (append-nil read))
