-- Of the laws. When two states see the same, each with the entries that come to it.
use Rattle.std.specs.Prelude.{◌≡◌, ℕ, List}
use Rattle.wf_model.specs.declared.chart.Chart.{Chart}
use Rattle.wf_model.specs.declared.outer.Entry.{Entry}
use Rattle.wf_semantics.specs.Effects.{after_entries}
use Rattle.wf_semantics.specs.Run.{CentralState, is_there, open_now, done_now}

-- the same states are in, each variable has the same value once the outputs are written, the same events are there, and of
-- each activity as many items are open, and an item is completed in both or in neither
pub record SeeAlike (chart : Chart) (c : CentralState) (e : List Entry) (d : CentralState) (f : List Entry) : Type 0 where
  pub configuration : c.configuration ≡ d.configuration
  pub store : after_entries e c.store ≡ after_entries f d.store
  pub there : (event : ℕ) → is_there c.raised e event ≡ is_there d.raised f event
  pub counts : (a : ℕ) → open_now chart c.items e a ≡ open_now chart d.items f a
  pub dones : (a : ℕ) → done_now chart e a ≡ done_now chart f a
