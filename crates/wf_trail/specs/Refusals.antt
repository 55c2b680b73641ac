-- Of other calls. How a run without a trail ends: its status, and its line.
use Rattle.std.specs.Prelude.{ℕ, ◌++◌, List, []}
use Rattle.std.specs.Fmt.{decimal}
use lib.Chars.{codes}
use Rattle.wf_model.specs.declared.ids.UnitId.{UnitId}
use Rattle.wf_model.specs.declared.chart.Chart.{Chart}
use Rattle.wf_model.specs.declared.status.Status.{Status}
use Rattle.wf_model.specs.declared.status.Status.TheVariants as status
use Rattle.wf_words.specs.Names.{unit_name}
use Rattle.wf_steps.specs.declared.fault.HeadNames.{HeadNames}
use Rattle.wf_trail.specs.declared.fault.TrailFault.{TrailFault}
use Rattle.wf_trail.specs.declared.fault.TrailFault.TheVariants as f

abbrev pub status_of : TrailFault → Status
status_of (f.DiskFailed unit) = status.DiskFault
status_of (f.Foreign unit kept wanted) = status.Journals
status_of (f.Bad unit at first) = status.Journals
status_of f.TooLong = status.Limit
status_of f.NoMemory = status.NoMemory

-- CHART UNIT
abbrev pub names_text : HeadNames → List ℕ
names_text names = names.chart ++ codes " " ++ names.unit

-- journal U holds CHART UNIT wants CHART UNIT
abbrev pub foreign_text : Chart → UnitId → HeadNames → HeadNames → List ℕ
foreign_text chart unit kept wanted = codes "journal " ++ unit_name chart unit ++ codes " holds " ++ names_text kept ++ codes " wants " ++ names_text wanted

-- journal U bad at N byte B
abbrev pub bad_text : Chart → UnitId → ℕ → ℕ → List ℕ
bad_text chart unit at first = codes "journal " ++ unit_name chart unit ++ codes " bad at " ++ decimal at ++ codes " byte " ++ decimal first

-- what the line says behind `refused`; that memory ran out has no line
abbrev pub cause_text : Chart → TrailFault → List ℕ
cause_text chart (f.DiskFailed unit) = codes "disk " ++ unit_name chart unit
cause_text chart (f.Foreign unit kept wanted) = foreign_text chart unit kept wanted
cause_text chart (f.Bad unit at first) = bad_text chart unit at first
cause_text chart f.TooLong = codes "limit report"
cause_text chart f.NoMemory = []

-- the line of a fault
unfoldable pub fault_line : Chart → TrailFault → List ℕ
fault_line chart fault = codes "refused " ++ cause_text chart fault ++ codes "\n"
