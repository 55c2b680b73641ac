-- Two states that see the same do the same.
use Rattle.std.proofs.Common.{◌≡◌, ℕ, List, Some, ap, ap₂}
use Rattle.std.specs.Prelude.{slice_get}
use Rattle.wf_model.specs.declared.chart.Chart.{Chart}
use Rattle.wf_model.specs.declared.outer.Entry.{Entry}
use Rattle.wf_semantics.specs.Configuration.{Tree, is_in}
use Rattle.wf_semantics.specs.Walk.{fired_of, new_tree}
use Rattle.wf_semantics.specs.Snapshot.{Snapshot, is_enabled}
use Rattle.wf_semantics.specs.Effects.{after_fired, raised_by, starts_of}
use Rattle.wf_semantics.specs.Run.{CentralState, next_state, snapshot_of, fired_in}
use Rattle.wf_runs.specs.Sight.{SeeAlike}

module _ (chart : Chart) (c : CentralState) (e : List Entry) (d : CentralState) (f : List Entry) (alike : SeeAlike chart c e d f) where
  pub same_snapshot : snapshot_of chart c e ≡ snapshot_of chart d f
  unfolding snapshot_of
  same_snapshot = λ i. record {
    seen = record {
      state = λ s. Some (is_in s (alike.configuration i));
      var = slice_get (alike.store i);
      count = λ a. Some (alike.counts a i);
      done = λ a. Some (alike.dones a i);
    };
    there = λ event. alike.there event i;
  }

  pub same_fired : fired_in chart c e ≡ fired_in chart d f
  unfolding fired_in
  same_fired = ap₂ (λ (snap : Snapshot) (tree : Tree). fired_of chart (is_enabled chart snap) tree) same_snapshot alike.configuration

  pub same_configuration : (next_state chart c e).configuration ≡ (next_state chart d f).configuration
  unfolding next_state
  same_configuration = ap₂ (λ (snap : Snapshot) (tree : Tree). new_tree chart (is_enabled chart snap) tree) same_snapshot alike.configuration

  pub same_store : (next_state chart c e).store ≡ (next_state chart d f).store
  unfolding next_state
  same_store = λ i. after_fired chart (same_snapshot i).seen (same_fired i) (alike.store i)

  pub same_raised : (next_state chart c e).raised ≡ (next_state chart d f).raised
  unfolding next_state
  same_raised = ap₂ (λ (snap : Snapshot) (fired : List ℕ). raised_by chart snap.seen fired) same_snapshot same_fired

  pub same_starts : starts_of chart (fired_in chart c e) ≡ starts_of chart (fired_in chart d f)
  same_starts = ap (starts_of chart) same_fired
