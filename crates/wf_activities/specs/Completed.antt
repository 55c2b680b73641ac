-- Inner. For each activity, whether entries complete an item of it.
use Rattle.std.specs.Prelude.{ℕ, ◌≡◌, true, List, [], ◌∷◌, Option, Some, None, if◌then◌else◌}
use Rattle.std.specs.Option.{option_map_or}
use Rattle.wf_model.specs.declared.ids.ActId.{ActId}
use Rattle.wf_model.specs.declared.chart.Chart.{Chart}
use Rattle.wf_model.specs.declared.outer.Outer.{Outer}
use Rattle.wf_model.specs.declared.outer.Outer.TheVariants.{Happen, Complete}
use Rattle.wf_model.specs.declared.outer.Entry.{Entry}
use Rattle.wf_semantics.specs.Items.{Item, Completion, item_at, close, done_count}
use Rattle.wf_semantics.specs.Run.{act_unit, completions_at}
use Rattle.wf_semantics.specs.Admission.{is_act_at, is_of}
use Rattle.wf_activities.specs.UnitItems.{is_open}

-- the activity of which an outer at unit u completes an item, if it is one of that unit
abbrev pub completed_at : Chart → ℕ → Outer → Option ActId
completed_at chart u (Happen e) = None
completed_at chart u (Complete n a outputs) = if is_act_at chart u a.0 then Some a else None

-- how many items of activity a these entries complete at its unit
abbrev pub done_by : Chart → List Entry → ℕ → ℕ
done_by chart entries a = option_map_or (λ u. done_count a (completions_at u entries)) (act_unit chart a) 0

-- one after another, each of these completes an item that is then open, and names its activity
abbrev pub InTurn : List Completion → List Item → Type 0
InTurn [] items = Unit {0}
InTurn (c ∷ cs) items = (is_open (item_at items c.item) ≡ true) × (is_of c.act.0 (item_at items c.item) ≡ true) × InTurn cs (close c.item items)

-- at each of the units the entries complete open items one after another
abbrev pub CompleteInTurn : (ℕ → List Item) → List Entry → Type 0
CompleteInTurn items entries = (u : ℕ) → InTurn (completions_at u entries) (items u)
