-- The central run goes from configuration to configuration, and fires by the rule.
use Rattle.std.proofs.Common.{◌≡◌, ℕ, ◌&&◌, Bool, true, false, List, [], ◌∷◌, filter, Option, Some, unwrap_or, refl, sym, ap, ◌∙◌}
use Rattle.std.specs.Option.{option_map}
use Rattle.wf_model.specs.declared.chart.Chart.{Chart}
use Rattle.wf_model.specs.declared.chart.Transition.{Transition}
use Rattle.wf_model.specs.declared.outer.Entry.{Entry}
use Rattle.wf_model.specs.Tree.{source, all_transitions}
use Rattle.wf_semantics.specs.Configuration.{Tree, is_in, IsConfiguration}
use Rattle.wf_semantics.specs.Snapshot.{Snapshot, is_active, has_event, has_guard, is_ready, is_enabled}
use Rattle.wf_semantics.specs.Run.{CentralState, first_state, next_state, after_steps, central_run, snapshot_of, fired_in}
use Rattle.wf_semantics.specs.Flat.{fires, HaveActiveSources}
use Rattle.wf_model.proofs.Bools.{and_both}
use Rattle.wf_semantics.proofs.Children.{item_at}
use Rattle.wf_semantics.proofs.Facts.{IsChart}
use Rattle.wf_semantics.proofs.Grown.{default_configuration, new_configuration}
use Rattle.wf_semantics.proofs.Steps.{same_fired}

-- the source of an enabled transition is in, where the snapshot shows what is in
pub enabled_sources : (chart : Chart) (snap : Snapshot) (c : Tree) → ((s : ℕ) → snap.seen.state s ≡ Some (is_in s c)) → HaveActiveSources chart (is_enabled chart snap) c
unfolding is_enabled
enabled_sources chart snap c shows t lt h =
    let w = item_at chart.transitions t lt in
    let ready : is_ready snap w.0 ≡ true = ap (λ (o : Option Transition). unwrap_or (option_map (is_ready snap) o) false) (sym w.1) ∙ h in
    let from : source chart t ≡ w.0.source.0 = ap (λ (o : Option Transition). unwrap_or (option_map (λ trans. trans.source.0) o) 0) w.1 in
    ap (λ (s : ℕ). is_in s c) from
    ∙ ap (λ (o : Option Bool). unwrap_or o false) (sym (shows w.0.source.0))
    ∙ (and_both (is_active snap.seen w.0.source.0) (has_event snap.there w.0.event && has_guard snap.seen w.0.guard) ready).0

pub snapshot_shows : (chart : Chart) (c : CentralState) (entries : List Entry) (s : ℕ) → (snapshot_of chart c entries).seen.state s ≡ Some (is_in s c.configuration)
unfolding snapshot_of
snapshot_shows chart c entries s = refl

module _ (chart : Chart) (ok : IsChart chart) where
  pub first_configuration : IsConfiguration chart (first_state chart).configuration
  unfolding first_state
  first_configuration = default_configuration chart ok

  pub next_configuration : (c : CentralState) (entries : List Entry) → IsConfiguration chart c.configuration → IsConfiguration chart (next_state chart c entries).configuration
  unfolding next_state
  next_configuration c entries h = new_configuration chart ok (is_enabled chart (snapshot_of chart c entries)) c.configuration h

  pub steps_configuration : (c : CentralState) (steps : List (List Entry)) → IsConfiguration chart c.configuration → IsConfiguration chart (after_steps chart c steps).configuration
  steps_configuration c [] h = h
  steps_configuration c (entries ∷ steps) h = steps_configuration (next_state chart c entries) steps (next_configuration c entries h)

  pub run_configuration : (steps : List (List Entry)) → IsConfiguration chart (central_run chart steps).configuration
  run_configuration steps = steps_configuration (first_state chart) steps first_configuration

  pub step_fires : (c : CentralState) (entries : List Entry) → IsConfiguration chart c.configuration → fired_in chart c entries ≡ filter (fires chart (is_enabled chart (snapshot_of chart c entries))) (all_transitions chart)
  unfolding fired_in
  step_fires c entries h = same_fired chart ok (is_enabled chart (snapshot_of chart c entries)) c.configuration h
      (enabled_sources chart (snapshot_of chart c entries) c.configuration (snapshot_shows chart c entries))
