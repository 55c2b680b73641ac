-- Of other calls. A chart that is judged: itself where it has no fault.
use Rattle.std.specs.Prelude.{Option, Some, None, Result, Ok, Err}
use Rattle.wf_model.specs.declared.chart.Chart.{Chart}
use Rattle.wf_check.specs.declared.fault.CheckFault.{CheckFault}
use Rattle.wf_check.specs.FirstFault.{first_fault}

abbrev pub judged_by : Chart → Option CheckFault → Result Chart (Chart × CheckFault)
judged_by chart None = Ok chart
judged_by chart (Some fault) = Err (chart, fault)

-- the chart, or the chart with its first fault
unfoldable pub judged_of : Chart → Result Chart (Chart × CheckFault)
judged_of chart = judged_by chart (first_fault chart)

abbrev pub checked_by : Chart → Option CheckFault → Result Chart CheckFault
checked_by chart None = Ok chart
checked_by chart (Some fault) = Err fault

-- the chart, or its first fault
unfoldable pub checked_of : Chart → Result Chart CheckFault
checked_of chart = checked_by chart (first_fault chart)
