-- Of the laws. Laws of histories that records make.
use Rattle.std.specs.Prelude.{ℕ, suc, ◌≡◌, ◌+◌, ◌<◌, ◌≤◌, List, length}
use Rattle.wf_model.specs.Limits.{max_steps, max_units}
use Rattle.wf_model.specs.declared.update.Update.{Update}
use Rattle.wf_parts.specs.declared.data.PartData.{PartData}
use Rattle.wf_parts.specs.Parts.{IsPart}
use Rattle.wf_codec.specs.Ranges.{IsInRange, any_numbers, IsOuter}
use Rattle.wf_codec.specs.Records.{IsRecordInRange}
use Rattle.wf_codec.specs.declared.record.JournalRecord.TheVariants.{Admit, Turn}
use Rattle.wf_histories.specs.Histories.{Admission, History, taken, local_update}
use Rattle.wf_worlds.specs.Growing.{Fits, Good, admitted, turned}
use Rattle.wf_steps.specs.Growing.{MayAdmit, MayTurn, IsMade, sealing}

-- what a history that records made has: no more is sealed than was admitted, all that the central law asks, and few steps
pub record IsSound (part : PartData) (is : IsPart part) (h : History) : Type 0 where
  pub fits : Fits h
  pub good : Good is.chart is.unit h
  pub steps : taken h ≤ max_steps

abbrev pub MadeIsSound : Type 0
MadeIsSound = (part : PartData) (is : IsPart part) (h : History) → IsMade part h → IsSound part is h

-- each own update up to the next step's has a spelling's ranges
abbrev pub UpdatesInRange : Type 0
UpdatesInRange = (part : PartData) (h : History) (j : ℕ) → IsPart part → IsMade part h → j ≤ taken h → IsInRange (local_update part h (suc j))

-- the records that may follow have a spelling's ranges
abbrev pub AdmitInRange : Type 0
AdmitInRange = (part : PartData) (h : History) (a : Admission) → IsPart part → MayAdmit part h a → IsRecordInRange (Admit a.request a.outer)

abbrev pub TurnInRange : Type 0
TurnInRange = (part : PartData) (h : History) (inputs : List Update) → IsPart part → MayTurn part h inputs → IsRecordInRange (Turn (taken h + 1) inputs (sealing h))
