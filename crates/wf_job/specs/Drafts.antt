-- Of other calls. Which lines of a host's script may stand together.
use Rattle.std.specs.Prelude.{ℕ, ◌==◌, ◌&&◌, ◌||◌, nat_lt, not, Bool, ◌++◌, List, [], ◌∷◌, length, Option, Some, None, is_some, if◌then◌else◌}
use Rattle.std.specs.List.{list_all, list_any}
use Rattle.wf_model.specs.Limits.{max_client_lines}
use Rattle.wf_model.specs.declared.chart.Chart.{Chart}
use Rattle.wf_semantics.specs.Admission.{is_event_at, is_act_at, are_outputs_of}
use Rattle.wf_job.specs.declared.job.ClientLine.{ClientLine}
use Rattle.wf_job.specs.declared.job.WorkerLine.{WorkerLine}
use Rattle.wf_job.specs.declared.lines.HostLine.{HostLine}
use Rattle.wf_job.specs.declared.lines.HostLine.TheVariants as lines
use Rattle.wf_job.specs.declared.draft.Draft.{Draft}

-- no line yet
abbrev pub blank : Draft
blank = record { clients = []; workers = []; goal = None }

-- each of these lines of the same client names the same unit
abbrev pub is_with : List ClientLine → ClientLine → Bool
is_with clients line = list_all (λ l. not (l.client == line.client) || (l.unit.0 == line.unit.0)) clients

-- A client's line may stand behind these: they aren't too many, its event is at its unit, and its client has no other unit.
abbrev pub may_follow : Chart → List ClientLine → ClientLine → Bool
may_follow chart clients line =
    nat_lt (length clients) max_client_lines && (is_event_at chart line.unit.0 line.event.0 && is_with clients line)

-- A worker may stand behind these: none has its number, and it does an activity that is at its unit, with the activity's outputs.
abbrev pub may_join : Chart → List WorkerLine → WorkerLine → Bool
may_join chart workers line =
    not (list_any (λ w. w.worker == line.worker) workers)
    && (is_act_at chart line.unit.0 line.act.0 && are_outputs_of chart line.act.0 line.outputs)

abbrev pub with_client : Chart → Draft → ClientLine → Option Draft
with_client chart draft line =
    if may_follow chart draft.clients line then Some (record draft { clients = draft.clients ++ line ∷ [] }) else None

abbrev pub with_worker : Chart → Draft → WorkerLine → Option Draft
with_worker chart draft line =
    if may_join chart draft.workers line then Some (record draft { workers = draft.workers ++ line ∷ [] }) else None

-- there is one goal
abbrev pub with_goal : Draft → ℕ → Option Draft
with_goal draft goal = if is_some draft.goal then None else Some (record draft { goal = Some goal })

-- the draft with what a line says, if that may stand there
unfoldable pub with_said : Chart → Draft → Option HostLine → Option Draft
with_said chart draft None = Some draft
with_said chart draft (Some (lines.Client line)) = with_client chart draft line
with_said chart draft (Some (lines.Worker line)) = with_worker chart draft line
with_said chart draft (Some (lines.Goal goal)) = with_goal draft goal
