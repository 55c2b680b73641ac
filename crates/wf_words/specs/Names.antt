-- The names of the parts of a chart, by their numbers.
-- A number that no part has stands for the empty name.
use Rattle.std.specs.Prelude.{ℕ, List, [], slice_get}
use Rattle.std.specs.Option.{option_map_or}
use Rattle.wf_model.specs.declared.ids.ActId.{ActId}
use Rattle.wf_model.specs.declared.ids.EventId.{EventId}
use Rattle.wf_model.specs.declared.ids.StateId.{StateId}
use Rattle.wf_model.specs.declared.ids.UnitId.{UnitId}
use Rattle.wf_model.specs.declared.ids.VarId.{VarId}
use Rattle.wf_model.specs.declared.chart.Chart.{Chart}

abbrev pub unit_name : Chart → UnitId → List ℕ
unit_name chart u = option_map_or (λ name. name) (slice_get chart.units u.0) []

abbrev pub event_name : Chart → EventId → List ℕ
event_name chart e = option_map_or (λ event. event.name) (slice_get chart.events e.0) []

abbrev pub var_name : Chart → VarId → List ℕ
var_name chart x = option_map_or (λ var. var.name) (slice_get chart.vars x.0) []

abbrev pub act_name : Chart → ActId → List ℕ
act_name chart a = option_map_or (λ act. act.name) (slice_get chart.acts a.0) []

abbrev pub state_name : Chart → StateId → List ℕ
state_name chart s = option_map_or (λ state. state.name) (slice_get chart.states s.0) []
