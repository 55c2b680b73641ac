-- Of other calls. A server as its callers see it.
use Rattle.std.specs.Prelude.{ℕ, ◌+◌, ◌==◌, Bool, List, length, Option, None, slice_index_or, filter_map, if◌then◌else◌}
use Rattle.wf_model.specs.declared.outer.Outer.{Outer}
use Rattle.wf_model.specs.declared.update.Update.{Update}
use Rattle.wf_disk.specs.Disk.{Told}
use Rattle.wf_journal.specs.State.{Kept}
use Rattle.wf_codec.specs.declared.record.JournalRecord.{JournalRecord}
use Rattle.wf_codec.specs.declared.record.JournalRecord.TheVariants.{Admit, Turn}
use Rattle.wf_parts.specs.declared.data.PartData.{PartData}
use Rattle.wf_histories.specs.Histories.{Admission, History, taken}
use Rattle.wf_worlds.specs.Growing.{admitted, turned}
use Rattle.wf_steps.specs.Growing.{sealing}

-- its journal, its part and its history; by unit the updates that it holds of the next step, and of the one behind it; whether the next
-- Turn is worked out
pub record Server (D : Type 0) : Type 0 where
  pub journal : Kept D
  pub part : PartData
  pub past : History
  pub came : List (Option Update)
  pub early : List (Option Update)
  pub ready : Bool

-- its disk
abbrev pub told_by : {D : Type 0} → (D → Told) → Server D → Told
told_by told server = told server.journal.disk

-- what there is of unit v
abbrev pub held_in : List (Option Update) → ℕ → Option Update
held_in slots v = slice_index_or slots v None

-- the update that it holds of unit v's step
abbrev pub held : {D : Type 0} → Server D → ℕ → ℕ → Option Update
held server v step =
    if step == taken server.past + 1 then held_in server.came v else (if step == taken server.past + 2 then held_in server.early v else None)

-- what came, in unit order
abbrev pub inputs_of : List (Option Update) → List Update
inputs_of slots = filter_map (λ slot. slot) slots

-- a request's admission
abbrev pub admission : ℕ → Outer → Admission
admission request outer = record { request = request; outer = outer }

-- the history with it, and with the Turn that takes in what came
abbrev pub with_admission : History → ℕ → Outer → History
with_admission past request outer = admitted past (admission request outer)

abbrev pub with_turn : History → List (Option Update) → History
with_turn past came = turned past (inputs_of came)

-- the records of both
abbrev pub admit_record : ℕ → Outer → JournalRecord
admit_record request outer = Admit request outer

abbrev pub turn_record : History → List (Option Update) → JournalRecord
turn_record past came = Turn (taken past + 1) (inputs_of came) (sealing past)
