-- Inner. A value that is given to a variable.
use Rattle.std.specs.Prelude.{◌==◌, ◌&&◌, Bool, false}
use Rattle.std.specs.Option.{option_map_or}
use Rattle.wf_model.specs.Seen.{val_sort}
use Rattle.wf_model.specs.Sorts.{alike, var_sort}
use Rattle.wf_model.specs.declared.ids.VarId.{VarId}
use Rattle.wf_model.specs.declared.chart.Chart.{Chart}
use Rattle.wf_model.specs.declared.outer.Output.{Output}

-- it is for this variable, and of its sort
abbrev pub is_value_of : Chart → VarId → Output → Bool
is_value_of chart x o = (o.var.0 == x.0) && option_map_or (λ sort. alike sort (val_sort o.val)) (var_sort chart x.0) false
