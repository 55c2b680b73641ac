-- Of the laws. Which charts have a first fault.
use Rattle.std.specs.Prelude.{◌≡◌, ◌≢◌, Some, None}
use Rattle.wf_model.specs.declared.chart.Chart.{Chart}
use Rattle.wf_model.specs.Accepted.{IsAccepted}
use Rattle.wf_check.specs.declared.fault.CheckFault.TheVariants.{NoMemory}
use Rattle.wf_check.specs.FirstFault.{first_fault}

-- no accepted chart has one
abbrev pub AcceptedHasNoFault : Type 0
AcceptedHasNoFault = (chart : Chart) → IsAccepted chart → first_fault chart ≡ None

-- and a chart that has none is accepted
abbrev pub FaultlessIsAccepted : Type 0
FaultlessIsAccepted = (chart : Chart) → first_fault chart ≡ None → IsAccepted chart

-- checking answers a rule that the chart breaks, or none, and never that memory ran out, which the code alone may answer
abbrev pub CheckingHasMemory : Type 0
CheckingHasMemory = (chart : Chart) → first_fault chart ≢ Some NoMemory
