-- One more line of a script.
use Rattle.std.proofs.Common.{◌≡◌, ◌≢◌, ℕ, ◌+◌, List, [], ◌∷◌, Result, Ok, Err, refl, ap, ◌∙◌, sym}
use Rattle.wf_model.specs.Steps.{Gives}
use Rattle.wf_model.specs.declared.chart.Chart.{Chart}
use Rattle.wf_scripts.specs.declared.script.ScriptFault.{ScriptFault}
use Rattle.wf_scripts.specs.declared.script.ScriptFault.TheVariants as faults
use Rattle.wf_scripts.specs.Lines.{lines_of, first_line, behind_line}
use Rattle.wf_scripts.specs.Names.{Finder}
use Rattle.wf_scripts.proofs.Split.{lines_of-split}
use Rattle.wf_job.specs.declared.draft.Draft.{Draft}
use Rattle.wf_job.specs.declared.job.HostJob.{HostJob}
use Rattle.wf_job.specs.Script.{with_line, job_from}

-- a line that may stand there
pub read_more : (chart : Chart) (names : Finder) (number : ℕ) (draft next : Draft) (rest : List ℕ) → rest ≢ []
    → with_line chart names number (first_line rest) draft ≡ Ok next
    → job_from chart names (number + 1) next (lines_of (behind_line rest)) ≡ job_from chart names number draft (lines_of rest)
read_more chart names number draft next rest some e = rw (lines_of-split rest some, e) refl

-- a line that is refused
pub read_refused : (chart : Chart) (names : Finder) (number : ℕ) (draft : Draft) (rest : List ℕ) (fault : ScriptFault) → rest ≢ []
    → with_line chart names number (first_line rest) draft ≡ Err fault → job_from chart names number draft (lines_of rest) ≡ Err fault
read_refused chart names number draft rest fault some e = rw (lines_of-split rest some, e) refl

-- so the script is refused
pub gives_refused : (chart : Chart) (names : Finder) (number : ℕ) (draft : Draft) (rest line : List ℕ) (fault : ScriptFault) (wanted : Result HostJob ScriptFault) → rest ≢ [] → line ≡ first_line rest
    → job_from chart names number draft (lines_of rest) ≡ wanted → Gives {A = Draft} faults.NoMemory (Err fault) (with_line chart names number line draft) → Gives {A = HostJob} faults.NoMemory (Err fault) wanted
gives_refused chart names number draft rest line fault wanted some first read_so refused =
    λ named. sym read_so ∙ read_refused chart names number draft rest fault some (rw first at (refused named))

-- an answer that is the wanted one
pub gives_same : (answer wanted : Result HostJob ScriptFault) → answer ≡ wanted → Gives faults.NoMemory answer wanted
gives_same (Ok job) wanted same = sym same
gives_same (Err fault) wanted same = λ named. sym same
