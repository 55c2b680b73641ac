-- Of other calls. Why a unit stops in a round.
use Rattle.std.specs.Prelude.{◌≡◌, ℕ, ◌+◌, ◌-◌, ◌<◌, Bool, false, Result, Ok, Err}
use Rattle.wf_model.specs.Faults.{Rose}
use Rattle.wf_model.specs.Limits.{max_journal, max_steps}
use Rattle.wf_disk.specs.Disk.{Told}
use Rattle.wf_histories.specs.Histories.{taken}
use Rattle.wf_worlds.specs.Ends.{longest_turn}
use Rattle.wf_server.specs.Servers.{Server, told_by}
use Rattle.wf_server.specs.declared.fault.TurnFault.{TurnFault}
use Rattle.wf_server.specs.declared.fault.TurnFault.TheVariants as turns
use Rattle.wf_actors.specs.declared.stop.Stop.{Stop}
use Rattle.wf_actors.specs.declared.stop.Stop.TheVariants as stops

-- a journal has no room for one more record only if its closed gate lies past this byte; with a record go 6 bytes more
abbrev pub full_place : ℕ
full_place = max_journal - (longest_turn + 6)

-- THE CAUSE OF A STOP, since the unit was as it was before: the count of faults of its disk rose; the closed gate of its journal lies past
-- that byte; it took all the steps that there are
abbrev pub IsStopOf : {D : Type 0} → (D → Told) → (old new : Server D) → Stop → Type 0
IsStopOf told old new stops.DiskFailed = Rose (told_by told old).faults (told_by told new).faults
IsStopOf told old new stops.JournalFull = full_place < new.journal.place
IsStopOf told old new stops.StepLimit = taken new.past ≡ max_steps
IsStopOf told old new stops.NoMemory = Unit {0}

-- By what a step that isn't taken says: the unit waits for an update, or it stops. Of a disk that failed before none is asked.
abbrev pub outcome_by : TurnFault → Result Bool Stop
outcome_by turns.JournalFull = Err stops.JournalFull
outcome_by turns.StepLimit = Err stops.StepLimit
outcome_by turns.NoMemory = Err stops.NoMemory
outcome_by turns.DiskFailed = Err stops.DiskFailed
outcome_by turns.Reopen = Err stops.DiskFailed
outcome_by (turns.Waiting absent) = Ok false
