-- What a central state keeps, and which state of a chart it is.
use Rattle.std.specs.Prelude.{◌≡◌, ◌+◌, ◌*◌, ◌≤◌, ℕ, Bool, false, List, length, map, slice_index_or}
use Rattle.wf_model.specs.Limits.{max_transitions, max_actions}
use Rattle.wf_model.specs.declared.ids.EventId.{EventId}
use Rattle.wf_model.specs.declared.value.Val.{Val}
use Rattle.wf_model.specs.declared.chart.Chart.{Chart}
use Rattle.wf_model.specs.declared.outer.Entry.{Entry}
use Rattle.wf_model.specs.Tree.{all_states}
use Rattle.wf_semantics.specs.Configuration.{is_in}
use Rattle.wf_semantics.specs.Bits.{tree_of_bits}
use Rattle.wf_semantics.specs.Effects.{starts_of}
use Rattle.wf_semantics.specs.Run.{CentralState, fired_in, started_in}
use Rattle.wf_semantics.specs.Shown.{HasSorts}
use Rattle.wf_scopes.specs.Tables.{Tables, tables_of}
use Rattle.wf_activities.specs.Stock.{Stock, AreOf, AreStarted, items_at}
use Rattle.wf_model.specs.declared.step_notes.StepNotes.{StepNotes}

pub record Kept : Type 0 where
  -- for each state, whether it is in
  pub active : List Bool
  -- the value of each variable
  pub store : List Val
  pub raised : List EventId
  pub items : Stock
  pub taken : ℕ
  pub tables : Tables

-- the state that is kept so
unfoldable pub central_of : Chart → Kept → CentralState
central_of chart kept =
    record { configuration = tree_of_bits chart (λ z. slice_index_or kept.active z false); store = kept.store; raised = kept.raised; items = items_at kept.items; taken = kept.taken }

-- what is kept is a state of this chart: the states that are in make a configuration, each variable has a value of its
-- sort, each step started no more items than a step can, and the tables are the chart's
pub record IsOf (chart : Chart) (kept : Kept) : Type 0 where
  pub active : kept.active ≡ map (λ z. is_in z (central_of chart kept).configuration) (all_states chart)
  pub sorts : HasSorts chart kept.store
  pub stock : AreOf chart kept.items
  pub few : (u : ℕ) → length (items_at kept.items u) ≤ kept.taken * (max_transitions * max_actions)
  pub tables : kept.tables ≡ tables_of chart

-- each item that the step starts which these entries bring has the number of this step
abbrev pub StartInStep : Chart → (before : Kept) → List Entry → (after : Kept) → Type 0
StartInStep chart before entries after =
    AreStarted chart (before.taken + 1) (starts_of chart (fired_in chart (central_of chart before) entries)) before.items after.items

-- what the step does that these entries bring
abbrev pub notes_of : Chart → CentralState → List Entry → StepNotes
notes_of chart c entries = record { fired = map (λ t. record { 0 = t }) (fired_in chart c entries); starts = started_in chart c entries }
