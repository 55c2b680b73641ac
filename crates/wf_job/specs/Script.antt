-- Of other calls. A script of a host: its job, or its first line outside the grammar.
use Rattle.std.specs.Prelude.{ℕ, ◌+◌, List, [], ◌∷◌, Option, Some, None, Result, Ok, Err}
use Rattle.std.specs.Option.{option_map}
use Rattle.wf_model.specs.Steps.{◌>>=◌}
use Rattle.wf_model.specs.declared.chart.Chart.{Chart}
use Rattle.wf_scripts.specs.declared.script.ScriptFault.{ScriptFault}
use Rattle.wf_scripts.specs.declared.script.ScriptFault.TheVariants as faults
use Rattle.wf_scripts.specs.Lines.{lines_of}
use Rattle.wf_scripts.specs.Names.{Finder, names_of}
use Rattle.wf_scripts.specs.Script.{line_by, or_refused}
use Rattle.wf_job.specs.declared.draft.Draft.{Draft}
use Rattle.wf_job.specs.declared.job.HostJob.{HostJob}
use Rattle.wf_job.specs.Lines.{said_by}
use Rattle.wf_job.specs.Drafts.{blank, with_said}

-- The draft with the line of this number. It is refused if it is outside the grammar by itself, or by what stands before it.
abbrev pub with_line : Chart → Finder → ℕ → List ℕ → Draft → Result Draft ScriptFault
with_line chart names number line draft =
    line_by said_by names number line >>= (λ said. or_refused number (with_said chart draft said))

-- the job of a draft whose goal is this
abbrev pub with_goal_of : Draft → ℕ → HostJob
with_goal_of draft goal = record { clients = draft.clients; workers = draft.workers; goal = goal }

-- the job of a whole draft; where its goal is missing, the line of this number, behind the last one, is refused
abbrev pub whole : ℕ → Draft → Result HostJob ScriptFault
whole number draft = or_refused number (option_map (with_goal_of draft) draft.goal)

-- the job of the lines from this number on, behind those of the draft; or the first line outside the grammar
abbrev pub job_from : Chart → Finder → ℕ → Draft → List (List ℕ) → Result HostJob ScriptFault
job_from chart names number draft [] = whole number draft
job_from chart names number draft (line ∷ lines) =
    with_line chart names number line draft >>= (λ next. job_from chart names (number + 1) next lines)

-- the job that the script says; or the first line outside the grammar
unfoldable pub job_of : Chart → List ℕ → Result HostJob ScriptFault
job_of chart script = job_from chart (names_of chart) 1 blank (lines_of script)
