-- Of other calls. What the images of the units' disks tell, and what may be answered.
use Rattle.std.specs.Prelude.{ℕ, suc, ◌≡◌, ◌++◌, nat_le, List, [], ◌∷◌, length, Option, Some, None, Result, Ok, Err, if◌then◌else◌}
use Rattle.wf_model.specs.Limits.{max_report}
use Rattle.wf_model.specs.Ids.{unit_id}
use Rattle.wf_model.specs.declared.ids.UnitId.{UnitId}
use Rattle.wf_model.specs.declared.chart.Chart.{Chart}
use Rattle.wf_parts.specs.declared.data.PartData.{PartData}
use Rattle.wf_parts.specs.Parts.{part_of}
use Rattle.wf_journal.specs.Frames.{open_gate, bodies_of, can_start, end_of}
use Rattle.wf_histories.specs.Histories.{History}
use Rattle.wf_steps.specs.declared.fault.RecoverFault.{RecoverFault}
use Rattle.wf_steps.specs.declared.fault.RecoverFault.TheVariants as steps
use Rattle.wf_steps.specs.Records.{history_of}
use Rattle.wf_trail.specs.declared.fault.TrailFault.{TrailFault}
use Rattle.wf_trail.specs.declared.fault.TrailFault.TheVariants as f
use Rattle.wf_trail.specs.TrailText.{unit_text}

-- ---- one image

abbrev pub some_of : Result History RecoverFault → Result (Option History) RecoverFault
some_of (Ok h) = Ok (Some h)
some_of (Err fault) = Err fault

-- the history of an image with these bodies, none where there is no body
abbrev pub kept_with : PartData → List ℕ → List (List ℕ) → Result (Option History) RecoverFault
kept_with part file [] = Ok None
kept_with part file (body ∷ bodies) = some_of (history_of part file)

-- What an image holds of the part's unit: the history of its frames, none where it has no frame; or what is wrong. An open gate without
-- a whole frame behind it is bad, whatever records stand before it, unless the image has fewer than two bytes.
unfoldable pub kept_in : PartData → List ℕ → Result (Option History) RecoverFault
kept_in part file = if can_start file then kept_with part file (bodies_of file) else Err (steps.BadRecord (end_of file) open_gate)

-- ---- all images

-- a fault of a unit's journal
abbrev pub fault_at : UnitId → RecoverFault → TrailFault
fault_at unit (steps.Foreign kept wanted) = f.Foreign unit kept wanted
fault_at unit (steps.BadRecord at first) = f.Bad unit at first
fault_at unit steps.DiskFailed = f.DiskFailed unit
fault_at unit steps.NoMemory = f.NoMemory

-- the text of unit u, by what its image holds
abbrev pub text_by : Chart → ℕ → Result (Option History) RecoverFault → Result (List ℕ) TrailFault
text_by chart u (Ok kept) = Ok (unit_text chart u kept)
text_by chart u (Err fault) = Err (fault_at (unit_id u) fault)

-- a unit's text, and the text behind it; or the first fault
abbrev pub and_rest : Result (List ℕ) TrailFault → Result (List ℕ) TrailFault → Result (List ℕ) TrailFault
and_rest (Err fault) rest = Err fault
and_rest (Ok text) (Err fault) = Err fault
and_rest (Ok text) (Ok rest) = Ok (text ++ rest)

-- the text of the units with these names, the first of which is unit u, by the images of their names
unfoldable pub trail_from : Chart → (List ℕ → List ℕ) → ℕ → List (List ℕ) → Result (List ℕ) TrailFault
trail_from chart images u [] = Ok []
trail_from chart images u (name ∷ names) = and_rest (text_by chart u (kept_in (part_of chart u) (images name))) (trail_from chart images (suc u) names)

-- a text, unless it is too long
abbrev pub short_text : Result (List ℕ) TrailFault → Result (List ℕ) TrailFault
short_text (Err fault) = Err fault
short_text (Ok text) = if nat_le (length text) max_report then Ok text else Err f.TooLong

-- THE TRAIL OF A CHART by the images of its units' disks: its text, or the first fault, in the order of the units
unfoldable pub trail_of : Chart → (List ℕ → List ℕ) → Result (List ℕ) TrailFault
trail_of chart images = short_text (trail_from chart images 0 chart.units)

-- ---- answers

-- an answer is the one that is wanted, unless memory ran out or a disk failed
abbrev pub MayTell : Result (List ℕ) TrailFault → Result (List ℕ) TrailFault → Type 0
MayTell wanted (Ok text) = wanted ≡ Ok text
MayTell wanted (Err (f.DiskFailed unit)) = Unit {0}
MayTell wanted (Err (f.Foreign unit kept names)) = wanted ≡ Err (f.Foreign unit kept names)
MayTell wanted (Err (f.Bad unit at first)) = wanted ≡ Err (f.Bad unit at first)
MayTell wanted (Err f.TooLong) = wanted ≡ Err f.TooLong
MayTell wanted (Err f.NoMemory) = Unit {0}
