-- Inner. What the passes of a step start from, and what they have to make.
use Rattle.std.specs.Prelude.{◌≡◌, ℕ, Bool, List, map}
use Rattle.wf_model.specs.declared.chart.Chart.{Chart}
use Rattle.wf_model.specs.declared.outer.Entry.{Entry}
use Rattle.wf_model.specs.Seen.{Seen}
use Rattle.wf_model.specs.Tree.{all_states, all_transitions, all_events, all_acts}
use Rattle.wf_model.specs.Ids.{trans_id}
use Rattle.wf_semantics.specs.Configuration.{Tree, is_in, IsConfiguration}
use Rattle.wf_semantics.specs.Effects.{after_entries, starts_of}
use Rattle.wf_semantics.specs.Flat.{HaveActiveSources}
use Rattle.wf_semantics.specs.Walk.{new_tree, fired_of}
use Rattle.wf_semantics.specs.Run.{CentralState, is_there, open_now, done_now, fired_in, next_state}
use Rattle.wf_central.specs.declared.snapshot.StepSnapshot.{StepSnapshot}
use Rattle.wf_central.specs.declared.passes.AfterWalk.{AfterWalk}
use Rattle.wf_central.specs.declared.passes.AfterStep.{AfterStep}
use Rattle.wf_central.specs.Sight.{seen_by}

abbrev pub seen_of : StepSnapshot → Seen
seen_of snap = seen_by snap.active.now snap.store.now snap.counts.now snap.dones.now

-- the bits are those of this configuration, and the ready transitions are the enabled ones, which have their sources in
pub record AreBits (chart : Chart) (c : Tree) (enabled : ℕ → Bool) (active : List Bool) (ready : List Bool) : Type 0 where
  pub configuration : IsConfiguration chart c
  pub sources : HaveActiveSources chart enabled c
  pub bits : active ≡ map (λ z. is_in z c) (all_states chart)
  pub tests : ready ≡ map enabled (all_transitions chart)

-- what fired is what the walk fires, and the bits are those of the tree that it leaves
pub record MakesWalk (chart : Chart) (c : Tree) (enabled : ℕ → Bool) (after : AfterWalk) : Type 0 where
  pub fired : after.fired ≡ map trans_id (fired_of chart enabled c)
  pub active : after.active ≡ map (λ z. is_in z (new_tree chart enabled c)) (all_states chart)

-- what the step sees of this state, once the entries came
pub record IsSeen (chart : Chart) (c : CentralState) (entries : List Entry) (snap : StepSnapshot) (there : List Bool) : Type 0 where
  pub configuration : IsConfiguration chart c.configuration
  pub active : snap.active.now ≡ map (λ z. is_in z c.configuration) (all_states chart)
  pub store : snap.store.now ≡ after_entries entries c.store
  pub counts : snap.counts.now ≡ map (open_now chart c.items entries) (all_acts chart)
  pub dones : snap.dones.now ≡ map (done_now chart entries) (all_acts chart)
  pub events : there ≡ map (is_there c.raised entries) (all_events chart)

-- the next state, but for its items, and what it starts
pub record MakesStep (chart : Chart) (c : CentralState) (entries : List Entry) (after : AfterStep) : Type 0 where
  pub fired : after.fired ≡ map trans_id (fired_in chart c entries)
  pub active : after.active ≡ map (λ z. is_in z (next_state chart c entries).configuration) (all_states chart)
  pub store : after.store ≡ (next_state chart c entries).store
  pub raised : after.raised ≡ (next_state chart c entries).raised
  pub starts : after.starts ≡ starts_of chart (fired_in chart c entries)
