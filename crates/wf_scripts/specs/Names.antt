-- How the names of a script are found in a chart.
use Rattle.std.specs.Prelude.{ℕ, List, Option}
use Rattle.std.specs.Borrow.{Bor}
use Rattle.std.specs.List.{position_from}
use Rattle.std.specs.Str.{bytes_eq}
use Rattle.std.specs.HashMap.{HashMap, get_by}
use Rattle.wf_model.specs.declared.chart.Chart.{Chart}

-- the numbers that names stand for, for each kind of name
pub record Finder : Type 0 where
  pub unit : List ℕ → Option ℕ
  pub event : List ℕ → Option ℕ
  pub act : List ℕ → Option ℕ
  pub var : List ℕ → Option ℕ

-- the number of the first unit that has this name
abbrev pub unit_named : Chart → List ℕ → Option ℕ
unit_named chart name = position_from (λ unit. bytes_eq name unit) 0 chart.units

-- the number of the first event that has this name
abbrev pub event_named : Chart → List ℕ → Option ℕ
event_named chart name = position_from (λ event. bytes_eq name event.name) 0 chart.events

-- the number of the first activity that has this name
abbrev pub act_named : Chart → List ℕ → Option ℕ
act_named chart name = position_from (λ act. bytes_eq name act.name) 0 chart.acts

-- the number of the first variable that has this name
abbrev pub var_named : Chart → List ℕ → Option ℕ
var_named chart name = position_from (λ variable. bytes_eq name variable.name) 0 chart.vars

-- the names of a chart
abbrev pub names_of : Chart → Finder
names_of chart = record { unit = unit_named chart; event = event_named chart; act = act_named chart; var = var_named chart }

-- what a map from names has for a name
abbrev pub found_in : {X S : Type 0} → HashMap (Bor (List ℕ)) X S → List ℕ → Option X
found_in map name = get_by (λ key. bytes_eq name key.now) map
