-- The items of all units of a chart, with what is worked out once for the chart.
use Rattle.std.specs.Prelude.{◌≡◌, ◌++◌, ℕ, List, [], Option, length, map, filter, slice_index, slice_index_or}
use Rattle.std.specs.List.{filter_map}
use Rattle.std.specs.Option.{option_map}
use Rattle.wf_model.specs.declared.ids.VarId.{VarId}
use Rattle.wf_model.specs.declared.value.Sort.{Sort}
use Rattle.wf_model.specs.declared.chart.Chart.{Chart}
use Rattle.wf_model.specs.Sorts.{var_sort}
use Rattle.wf_semantics.specs.Items.{Item}
use Rattle.wf_model.specs.declared.update.StartAt.{StartAt}
use Rattle.wf_semantics.specs.Run.{is_at}
use Rattle.wf_activities.specs.UnitItems.{UnitItems}

pub record Stock : Type 0 where
  -- by unit
  pub items : List (List Item)
  -- by unit: the step of each item's start
  pub steps : List (List ℕ)
  -- by activity: the variables that a completion gives, each with its sort
  pub wanted : List (List (VarId × Sort))

-- unit u's items; a number that no unit has has none
abbrev pub items_at : Stock → ℕ → List Item
items_at stock u = slice_index_or stock.items u []

-- the steps of unit u's items
abbrev pub steps_at : Stock → ℕ → List ℕ
steps_at stock u = slice_index_or stock.steps u []

-- the same of the items as each unit keeps them
abbrev pub items_in : List UnitItems → ℕ → List Item
items_in units u = slice_index_or (map (λ i. i.items) units) u []

abbrev pub steps_in : List UnitItems → ℕ → List ℕ
steps_in units u = slice_index_or (map (λ i. i.steps) units) u []

-- how many items more of unit u take no memory
abbrev pub room_in : List UnitItems → ℕ → ℕ
room_in units u = slice_index (map (λ i. i.room) units) u

-- at each unit the items of these starts, which stand behind those before, were started in this step
abbrev pub AreStarted : Chart → ℕ → List StartAt → (before after : Stock) → Type 0
AreStarted chart step starts before after = (u : ℕ) → steps_at after u ≡ steps_at before u ++ map (λ s. step) (filter (is_at chart u) starts)

-- a variable with its sort, if it is one of the chart
abbrev pub with_sort : Chart → VarId → Option (VarId × Sort)
with_sort chart x = option_map (λ sort. (x, sort)) (var_sort chart x.0)

-- these variables, each with its sort
abbrev pub with_sorts : Chart → List VarId → List (VarId × Sort)
with_sorts chart outputs = filter_map (with_sort chart) outputs

-- by activity: the variables that a completion gives, each with its sort
unfoldable pub wanted_of : Chart → List (List (VarId × Sort))
wanted_of chart = map (λ act. with_sorts chart act.outputs) chart.acts

-- there are items for each unit of the chart, and the table is the chart's
pub record AreOf (chart : Chart) (stock : Stock) : Type 0 where
  pub units : length stock.items ≡ length chart.units
  pub wanted : stock.wanted ≡ wanted_of chart
