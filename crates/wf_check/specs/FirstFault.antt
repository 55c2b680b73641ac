-- What the checker answers: the first rule that a chart breaks.
use Rattle.std.specs.Prelude.{[], ◌∷◌, Option}
use Rattle.wf_model.specs.declared.chart.Chart.{Chart}
use Rattle.wf_check.specs.declared.fault.CheckFault.{CheckFault}
use Rattle.wf_check.specs.Firsts.{first_some}
use Rattle.wf_check.specs.Limited.{size_fault}
use Rattle.wf_check.specs.Numbered.{number_fault}
use Rattle.wf_check.specs.Naming.{name_fault}
use Rattle.wf_check.specs.Rooted.{shape_fault}
use Rattle.wf_check.specs.Sorted.{sort_fault}

-- limits, numbers, names, shape, and then sorts, outputs and transitions
unfoldable pub first_fault : Chart → Option CheckFault
first_fault c = first_some (size_fault c ∷ number_fault c ∷ name_fault c ∷ shape_fault c ∷ sort_fault c ∷ [])
