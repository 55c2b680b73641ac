-- What `trail` may answer: what the journals of a chart's units hold, or what is wrong with them.
use Rattle.std.specs.Prelude.{◌≡◌, ℕ, List, length, nat_le, Result, Ok, Err, IfErr, MatchBool}
use lib.Chars.{codes}
use Rattle.wf_model.specs.Limits.{max_input}
use Rattle.wf_model.specs.declared.chart.Chart.{Chart}
use Rattle.wf_model.specs.declared.status.Status.TheVariants as status
use Rattle.wf_refusals.specs.Lines.{refusal}
use Rattle.wf_scripts.specs.Lines.{chart_part}
use Rattle.wf_disk.specs.Shelf.{ShelfTold}
use Rattle.wf_trail.specs.declared.fault.TrailFault.{TrailFault}
use Rattle.wf_trail.specs.Images.{trail_of, MayTell}
use Rattle.wf_trail.specs.Shelves.{Tells, IsOfUnits}
use Rattle.wf_trail.specs.Refusals.{status_of, fault_line}
use Rattle.wf_top.specs.declared.answer.Answer.{Answer}
use Rattle.wf_top.specs.Answers.{answer, chart_in}

-- the text that was found, or the status and the line of a fault
abbrev pub trail_answer : Chart → Result (List ℕ) TrailFault → Answer
trail_answer chart (Ok text) = answer status.Ok text
trail_answer chart (Err fault) = answer (status_of fault) (fault_line chart fault)

-- What may be found of the journals of a chart's units: what the images of their disks hold, where the shelf tells these; or that the
-- disk of one of the units failed.
pub record MayFind (chart : Chart) (shelf : ShelfTold) (found : Result (List ℕ) TrailFault) : Type 0 where
  pub told : (images : List ℕ → List ℕ) → Tells shelf images → MayTell (trail_of chart images) found
  pub unit : IfErr found (IsOfUnits (length chart.units))

-- the answer to an accepted chart, or to the line of a chart's first fault
abbrev pub MayTrailChart : ShelfTold → Result Chart (List ℕ) → Answer → Type 0
MayTrailChart shelf (Err line) a = answer status.ChartRefused line ≡ a
MayTrailChart shelf (Ok chart) a = (found : Result (List ℕ) TrailFault) × MayFind chart shelf found × (trail_answer chart found ≡ a)

-- the answer to an input that isn't too long: nothing is looked at but its chart
abbrev pub MayTrailWithin : ShelfTold → List ℕ → Answer → Type 0
MayTrailWithin shelf input a = MayTrailChart shelf (chart_in (chart_part input)) a

-- the answer to an input
abbrev pub MayTrail : ShelfTold → List ℕ → Answer → Type 0
MayTrail shelf input a =
    MatchBool (nat_le (length input) max_input) (MayTrailWithin shelf input a) (answer status.Limit (refusal (codes "limit input")) ≡ a)
