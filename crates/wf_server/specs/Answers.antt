-- Of other calls. What `admit` and `turn` answer, by what the server is.
-- The conditions exclude each other, so that each decides its answer, unless memory runs out or the disk fails.
use Rattle.std.specs.Prelude.{◌≡◌, ◌≢◌, ℕ, ◌+◌, ◌<◌, ◌≤◌, false, true, length, List, Option, Some, None, option_map, slice_get, Result, Ok, Err}
use Rattle.wf_model.specs.Limits.{max_steps}
use Rattle.wf_model.specs.declared.outer.Outer.{Outer}
use Rattle.wf_model.specs.declared.outer.OuterFault.{OuterFault}
use Rattle.wf_model.specs.declared.outer.OuterFault.TheVariants as outers
use Rattle.wf_codec.specs.declared.record.JournalRecord.{JournalRecord}
use Rattle.wf_codec.specs.Records.{record_spelling}
use Rattle.wf_journal.specs.declared.fault.AppendFault.{AppendFault}
use Rattle.wf_journal.specs.declared.fault.AppendFault.TheVariants as appends
use Rattle.wf_journal.specs.Faults.{refusal_of}
use Rattle.wf_histories.specs.Histories.{Admission, History, taken}
use Rattle.wf_worlds.specs.Admitting.{lets_in}
use Rattle.wf_steps.specs.Growing.{place_of}
use Rattle.wf_worlds.specs.Ends.{longest_turn}
use Rattle.wf_server.specs.declared.fault.Admitted.{Admitted}
use Rattle.wf_server.specs.declared.fault.Admitted.TheVariants.{New, Again}
use Rattle.wf_server.specs.declared.fault.AdmitFault.{AdmitFault}
use Rattle.wf_server.specs.declared.fault.AdmitFault.TheVariants as admits
use Rattle.wf_server.specs.declared.fault.Turn.{Turn}
use Rattle.wf_server.specs.declared.fault.Turn.TheVariants.{Took}
use Rattle.wf_server.specs.declared.fault.TurnFault.{TurnFault}
use Rattle.wf_server.specs.declared.fault.TurnFault.TheVariants as turns
use Rattle.wf_server.specs.Servers.{Server, admit_record, turn_record}
use Rattle.wf_server.specs.Inbox.{AllCame, AreMissing}

-- what was admitted at this place
abbrev pub outer_at : List Admission → ℕ → Option Outer
outer_at admissions place = option_map (λ a. a.outer) (slice_get admissions place)

-- admission n, counted from 1, has this request and this outer
abbrev pub IsNumber : History → ℕ → ℕ → Outer → Type 0
IsNumber past request n outer = (place : ℕ) × (n ≡ place + 1) × (place_of past request ≡ Some place) × (outer_at past.admissions place ≡ Some outer)

-- what the journal says to a record
abbrev pub says : {D : Type 0} → Server D → JournalRecord → Option AppendFault
says server r = refusal_of server.journal.failed server.journal.place (length (record_spelling r))

-- no call of the disk failed, the request is new, and this is what the part says to the outer
pub record IsNewRequest {D : Type 0} (server : Server D) (request : ℕ) (outer : Outer) (answer : Result (Unit {0}) OuterFault) : Type 0 where
  pub healthy : server.journal.failed ≡ false
  pub fresh : place_of server.past request ≡ None
  pub lets : lets_in server.part server.past outer ≡ answer

abbrev pub AdmitAnswers : {D : Type 0} → Server D → ℕ → Outer → Result Admitted AdmitFault → Type 0
AdmitAnswers server request outer (Err admits.Reopen) = server.journal.failed ≡ true
AdmitAnswers server request outer (Ok (Again n)) = (server.journal.failed ≡ false) × IsNumber server.past request n outer
AdmitAnswers server request outer (Err (admits.RequestReused n kept)) = (server.journal.failed ≡ false) × IsNumber server.past request n kept × (kept ≢ outer)
AdmitAnswers server request outer (Err admits.WrongUnit) = IsNewRequest server request outer (Err outers.WrongUnit)
AdmitAnswers server request outer (Err admits.NoItem) = IsNewRequest server request outer (Err outers.NoItem)
AdmitAnswers server request outer (Err admits.AlreadyDone) = IsNewRequest server request outer (Err outers.AlreadyDone)
AdmitAnswers server request outer (Err admits.WrongOutput) = IsNewRequest server request outer (Err outers.WrongOutput)
AdmitAnswers server request outer (Err admits.JournalFull) = IsNewRequest server request outer (Ok tt) × (says server (admit_record request outer) ≡ Some appends.Full)
AdmitAnswers server request outer (Err admits.NoMemory) = Unit {0}
AdmitAnswers server request outer (Err admits.DiskFailed) = IsNewRequest server request outer (Ok tt) × (says server (admit_record request outer) ≡ None)
AdmitAnswers server request outer (Ok (New n)) =
    IsNewRequest server request outer (Ok tt) × (says server (admit_record request outer) ≡ None) × (n ≡ length server.past.admissions + 1)

-- no call of the disk failed, the updates of the next step came, and there is a step left
pub record CanTurn {D : Type 0} (server : Server D) : Type 0 where
  pub healthy : server.journal.failed ≡ false
  pub came : AllCame server.part server.came
  pub steps : taken server.past < max_steps

-- what the journal says to the next Turn
abbrev pub says_to_turn : {D : Type 0} → Server D → Option AppendFault
says_to_turn server = says server (turn_record server.past server.came)

abbrev pub TurnAnswers : {D : Type 0} → Server D → Result Turn TurnFault → Type 0
TurnAnswers server (Err turns.Reopen) = server.journal.failed ≡ true
TurnAnswers server (Err (turns.Waiting set)) = (server.journal.failed ≡ false) × AreMissing server.part server.came set.0 × (set.0 ≢ 0)
TurnAnswers server (Err turns.StepLimit) = (server.journal.failed ≡ false) × AllCame server.part server.came × (taken server.past ≡ max_steps)
TurnAnswers server (Err turns.JournalFull) = CanTurn server × (says_to_turn server ≡ Some appends.Full) × (length (record_spelling (turn_record server.past server.came)) ≤ longest_turn)
TurnAnswers server (Err turns.NoMemory) = Unit {0}
TurnAnswers server (Err turns.DiskFailed) = CanTurn server × (says_to_turn server ≡ None)
TurnAnswers server (Ok (Took k)) = CanTurn server × (says_to_turn server ≡ None) × (k ≡ taken server.past + 1)

-- the answer is a new number
abbrev pub IsNew : Result Admitted AdmitFault → Type 0
IsNew (Ok (New n)) = Unit {0}
IsNew (Ok (Again n)) = ⊥
IsNew (Err fault) = ⊥

-- the journal was asked to add the admission
abbrev pub IsAsked : Result Admitted AdmitFault → Type 0
IsAsked (Ok (New n)) = Unit {0}
IsAsked (Ok (Again n)) = ⊥
IsAsked (Err admits.JournalFull) = Unit {0}
IsAsked (Err admits.DiskFailed) = Unit {0}
IsAsked (Err fault) = ⊥

-- A refusal of the part, and one of the journal, as a server tells it.

abbrev pub refused_by_part : OuterFault → AdmitFault
refused_by_part outers.WrongUnit = admits.WrongUnit
refused_by_part outers.NoItem = admits.NoItem
refused_by_part outers.AlreadyDone = admits.AlreadyDone
refused_by_part outers.WrongOutput = admits.WrongOutput

abbrev pub unadmitted_by : AppendFault → AdmitFault
unadmitted_by appends.Reopen = admits.Reopen
unadmitted_by appends.TooLong = admits.JournalFull
unadmitted_by appends.Full = admits.JournalFull
unadmitted_by appends.NoMemory = admits.NoMemory
unadmitted_by appends.DiskFailed = admits.DiskFailed

abbrev pub untaken_by : AppendFault → TurnFault
untaken_by appends.Reopen = turns.Reopen
untaken_by appends.TooLong = turns.JournalFull
untaken_by appends.Full = turns.JournalFull
untaken_by appends.NoMemory = turns.NoMemory
untaken_by appends.DiskFailed = turns.DiskFailed
