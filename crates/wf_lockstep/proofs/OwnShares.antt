-- The update that a part makes of the view that shows a central state is its unit's share of the step.
use Rattle.std.proofs.Common.{◌≡◌, ℕ, zero, suc, ◌+◌, ◌-◌, ◌<◌, ◌≤◌, ◌==◌, ◌||◌, ◌&&◌, not, cond, Bool, true, false, List, [], ◌∷◌, length, map, filter, filter_map, flat_map, Option, Some, None, unwrap_or, slice_get, refl, sym, ap, ap₂, ◌∙◌, subst, arith, eqb-true, ltb-true, true≢false}
use Rattle.std.specs.Prelude.{option_map}
use Rattle.std.specs.List.{list_any, list_all, range_with_len}
use Rattle.std.proofs.lemmas.Bool.{leb-true}
use Rattle.std.proofs.lemmas.List.Folds.{flat_map-map}
use Rattle.wf_model.specs.Limits.{max_events}
use Rattle.wf_model.specs.declared.ids.TransId.{TransId}
use Rattle.wf_model.specs.declared.chart.Action.{Action}
use Rattle.wf_model.specs.declared.chart.Action.TheVariants.{Assign, Raise, Start}
use Rattle.wf_model.specs.declared.chart.Chart.{Chart}
use Rattle.wf_model.specs.declared.chart.Transition.{Transition}
use Rattle.wf_model.specs.declared.outer.Outer.{Outer}
use Rattle.wf_model.specs.declared.outer.Entry.{Entry}
use Rattle.wf_parts.specs.declared.data.Component.{Component}
use Rattle.wf_parts.specs.declared.data.PartTransition.{PartTransition}
use Rattle.wf_model.specs.Tree.{all_states, all_transitions, scope, is_above}
use Rattle.wf_model.specs.Accepted.{IsAccepted, is_small, is_known_action, is_known_transition}
use Rattle.wf_semantics.specs.Configuration.{is_in, IsConfiguration}
use Rattle.wf_semantics.specs.Snapshot.{Snapshot, is_active, is_enabled}
use Rattle.wf_semantics.specs.Effects.{actions_of, action_raises, raises, raised_by, starts_from, starts_of}
use Rattle.wf_semantics.specs.Flat.{fires}
use Rattle.wf_semantics.specs.Run.{CentralState, snapshot_of, fired_in, next_state}
use Rattle.wf_semantics.specs.Admission.{may_come}
use Rattle.wf_model.proofs.Bools.{Mem, or_left, and_both, any_map, any_agree, not_true}
use Rattle.wf_semantics.proofs.Lists.{filter_mem, filter_agree}
use Rattle.wf_semantics.proofs.Facts.{chart_of, parts, rules}
use Rattle.wf_semantics.proofs.Steps.{transition_mem}
use Rattle.wf_semantics.proofs.Runs.{enabled_sources, snapshot_shows, step_fires}
use Rattle.wf_actions.specs.Writes.{merged}
use Rattle.wf_actions.specs.Store.{write_of, writes_of}
use Rattle.wf_parts.specs.Components.{enters, leaves, component_of, flat_of, fires_by, is_in_after}
use Rattle.wf_parts.specs.Known.{is_state_of, concerns, is_own, watches_state}
use Rattle.wf_parts.specs.Parts.{part_of}
use Rattle.wf_parts.proofs.Entered.{entered_is_below}
use Rattle.wf_parts.proofs.FlatSteps.{fires_same, same_bit}
use Rattle.wf_views.specs.Views.{sees}
use Rattle.wf_views.specs.OwnSteps.{fires_in, own_fired, differs, flips_in, is_raised_by, part_step, own_update}
use Rattle.wf_views.proofs.Lists.{map_map, map_same}
use Rattle.wf_lockstep.specs.Shares.{fired_of_unit, moved_of_unit, share_from}
use Rattle.wf_lockstep.specs.Shown.{shown}
use Rattle.wf_lockstep.proofs.Values.{writes_same, raises_same}
use Rattle.wf_lockstep.proofs.Numbered.{filter_map_swap, flat_agree}
use Rattle.wf_lockstep.proofs.Sight.{Alike, sees_alike}
use Rattle.wf_lockstep.proofs.Firing.{trans_at, trans_id_at, own_actions, own_fired_are, own_shown, fires_known}
use Rattle.wf_model.proofs.Items.{all_at}
use Rattle.wf_model.specs.Ids.{state_id, trans_id, event_id}

-- A LONGER RANGE, where nothing more passes

none_pass : (p : ℕ → Bool) (a k : ℕ) → ((e : ℕ) → a ≤ e → p e ≡ false) → filter p (range_with_len a k) ≡ []
none_pass p a zero h = refl
none_pass p a (suc k) h = ap (λ (b : Bool). cond b (a ∷ filter p (range_with_len (a + 1) k)) (filter p (range_with_len (a + 1) k))) (h a (omega arith)) ∙ none_pass p (a + 1) k (λ e l. h e (omega arith))

filter_past : (p : ℕ → Bool) (a n k : ℕ) → ((e : ℕ) → a + n ≤ e → p e ≡ false) → filter p (range_with_len a (n + k)) ≡ filter p (range_with_len a n)
filter_past p a zero k h = let z : 0 + k ≡ k = omega arith in ap (λ (m : ℕ). filter p (range_with_len a m)) z ∙ none_pass p a k (λ e l. h e (omega arith))
filter_past p a (suc n) k h =
    let z : suc n + k ≡ suc (n + k) = omega arith in
    ap (λ (m : ℕ). filter p (range_with_len a m)) z
    ∙ ap (λ (l : List ℕ). cond (p a) (a ∷ l) l) (filter_past p (a + 1) n k (λ e l. h e (omega arith)))

pub filter_longer : (p : ℕ → Bool) (n m : ℕ) → n ≤ m → ((e : ℕ) → n ≤ e → p e ≡ false) → filter p (range_with_len 0 m) ≡ filter p (range_with_len 0 n)
filter_longer p n m le h =
    let z : m ≡ n + (m - n) = omega arith in
    ap (λ (k : ℕ). filter p (range_with_len 0 k)) z ∙ filter_past p 0 n (m - n) (λ e l. h e (omega arith))

-- WHAT ACTIONS RAISE IS AN EVENT OF THE CHART

module _ (chart : Chart) (ok : IsAccepted chart) where
  pub few_events : length chart.events ≤ max_events
  unfolding is_small
  few_events = let r = (rules chart ok).small in leb-true (length chart.events) max_events (grind arith)

  actions_known : (t : ℕ) → list_all (is_known_action chart) (actions_of chart t) ≡ true
  actions_known t = go (slice_get chart.transitions t) (all_at (is_known_transition chart) chart.transitions (parts chart ok).known_transitions t)
    where
      go : (o : Option Transition) → ((trans : Transition) → o ≡ Some trans → is_known_transition chart trans ≡ true) →
          list_all (is_known_action chart) (unwrap_or (option_map (λ trans. trans.actions) o) []) ≡ true
      go None h = refl
      go (Some trans) h = let known : is_known_transition chart trans ≡ true = h trans refl in grind arith

  raise_known : (snap : Snapshot) (e : ℕ) (x : Action) → is_known_action chart x ≡ true → action_raises snap.seen e x ≡ true → e < length chart.events
  raise_known snap e (Assign x value) k h = let zero_is : e ≡ 0 = eqb-true e 0 (and_both (e == 0) (Rattle.wf_semantics.specs.Effects.is_fault (Rattle.wf_model.specs.Values.value_of snap.seen value)) h).0 in omega (arith, zero_is, (chart_of chart ok).some_event)
  raise_known snap e (Raise f) k h = omega (arith, eqb-true f.0 e h, ltb-true f.0 (length chart.events) k)
  raise_known snap e (Start a) k h = absurd (true≢false (sym h))

  raised_known : (snap : Snapshot) (e : ℕ) (xs : List Action) → list_all (is_known_action chart) xs ≡ true → length chart.events ≤ e → list_any (action_raises snap.seen e) xs ≡ false
  raised_known snap e [] k le = refl
  raised_known snap e (x ∷ xs) k le =
      let both = and_both (is_known_action chart x) (list_all (is_known_action chart) xs) k in
      ap₂ (λ (a b : Bool). a || b) (not_true (action_raises snap.seen e x) (λ h. omega (arith, raise_known snap e x both.0 h, le))) (raised_known snap e xs both.1 le)

  pub none_raised : (snap : Snapshot) (e : ℕ) (ts : List ℕ) → length chart.events ≤ e → list_any (raises chart snap.seen e) ts ≡ false
  none_raised snap e [] le = refl
  none_raised snap e (t ∷ ts) le = ap₂ (λ (a b : Bool). a || b) (raised_known snap e (actions_of chart t) (actions_known t) le) (none_raised snap e ts le)

-- THE UPDATE, field by field

unit_of : (chart : Chart) (u : ℕ) → (part_of chart u).unit ≡ record { 0 = u }
unfolding part_of
unit_of chart u = refl

module _ (chart : Chart) (ok : IsAccepted chart) (u : ℕ) (c : CentralState) (es : List Entry) (conf : IsConfiguration chart c.configuration)
    (stored : length c.store ≡ length chart.vars) (come : may_come chart c.items es ≡ true) where
  abbrev a : Snapshot
  a = sees (part_of chart u) (shown (part_of chart u) c es)

  abbrev b : Snapshot
  b = snapshot_of chart c es

  alike : Alike chart u (sees (part_of chart u) (shown (part_of chart u) c es)) (snapshot_of chart c es)
  alike = sees_alike chart u c es (chart_of chart ok) conf stored come

  -- u's own transitions that fire
  abbrev mine : List ℕ
  mine = fired_of_unit chart c es u

  mine_is : own_fired (part_of chart u) a ≡ map (trans_at chart u) mine
  mine_is =
      own_fired_are chart u ok a b alike
      ∙ ap (λ (l : List ℕ). map (trans_at chart u) (filter (is_own chart u) l)) (sym (step_fires chart (chart_of chart ok) c es conf))

  mine_own : (t : ℕ) → Mem t mine → (t < length chart.transitions) × (is_own chart u t ≡ true)
  mine_own t m =
      let f = filter_mem (is_own chart u) (fired_in chart c es) t m in
      let all : Mem t (filter (fires chart (is_enabled chart b)) (all_transitions chart)) = subst (λ (l : List ℕ). Mem t l) (step_fires chart (chart_of chart ok) c es conf) f.0 in
      (transition_mem chart t (filter_mem (fires chart (is_enabled chart b)) (all_transitions chart) t all).0, f.1)

  same_fired : map (λ p. p.id) (own_fired (part_of chart u) a) ≡ map trans_id mine
  same_fired =
      ap (map (λ (p : PartTransition). p.id)) mine_is ∙ map_map (λ (p : PartTransition). p.id) (trans_at chart u) mine
      ∙ map_same (λ t. (trans_at chart u t).id) trans_id (trans_id_at chart u) mine

  same_starts : flat_map (λ p. starts_from p.id.0 0 p.actions) (own_fired (part_of chart u) a) ≡ starts_of chart mine
  same_starts =
      ap (flat_map (λ (p : PartTransition). starts_from p.id.0 0 p.actions)) mine_is
      ∙ flat_map-map (λ (p : PartTransition). starts_from p.id.0 0 p.actions) (trans_at chart u) mine
      ∙ flat_agree (λ t. starts_from (trans_at chart u t).id.0 0 (trans_at chart u t).actions) (λ t. starts_from t 0 (actions_of chart t)) mine
      (λ t m. ap₂ (λ (i : TransId) (l : List Action). starts_from i.0 0 l) (trans_id_at chart u t) (own_actions chart u t (mine_own t m).1))

  same_writes : merged (flat_map (λ p. filter_map (write_of a.seen p.id.0) p.actions) (own_fired (part_of chart u) a)) ≡ merged (writes_of chart b.seen mine)
  same_writes =
      ap merged
      (ap (flat_map (λ (p : PartTransition). filter_map (write_of a.seen p.id.0) p.actions)) mine_is
      ∙ flat_map-map (λ (p : PartTransition). filter_map (write_of a.seen p.id.0) p.actions) (trans_at chart u) mine
      ∙ flat_agree (λ t. filter_map (write_of a.seen (trans_at chart u t).id.0) (trans_at chart u t).actions) (λ t. filter_map (write_of b.seen t) (actions_of chart t)) mine
      (λ t m. let o = mine_own t m in
      ap₂ (λ (i : TransId) (l : List Action). filter_map (write_of a.seen i.0) l) (trans_id_at chart u t) (own_actions chart u t o.1)
      ∙ writes_same a b t (actions_of chart t) (own_shown chart u ok a b alike t o.0 o.1)))

  same_raised : map event_id (filter (is_raised_by a (own_fired (part_of chart u) a)) (range_with_len 0 max_events)) ≡ raised_by chart b.seen mine
  same_raised =
      ap (map event_id)
      (filter_agree (is_raised_by a (own_fired (part_of chart u) a)) (λ e. list_any (raises chart b.seen e) mine) (range_with_len 0 max_events) (λ e r.
      ap (list_any (λ (p : PartTransition). list_any (action_raises a.seen e) p.actions)) mine_is
      ∙ any_map (λ (p : PartTransition). list_any (action_raises a.seen e) p.actions) (trans_at chart u) mine
      ∙ any_agree (λ t. list_any (action_raises a.seen e) (trans_at chart u t).actions) (raises chart b.seen e) mine (λ t m.
      let o = mine_own t m in ap (list_any (action_raises a.seen e)) (own_actions chart u t o.1) ∙ raises_same a b e (actions_of chart t) (own_shown chart u ok a b alike t o.0 o.1)))
      ∙ filter_longer (λ e. list_any (raises chart b.seen e) mine) (length chart.events) max_events (few_events chart ok) (λ e le. none_raised chart ok b e mine le))

  -- a transition with a state of u below its scope
  concerned : (t z : ℕ) → is_state_of chart u z ≡ true → Mem z (all_states chart) → is_above chart (scope chart t) z ≡ true → concerns chart u t ≡ true
  unfolding concerns
  concerned t z s m h = Rattle.wf_model.proofs.Bools.mem_any (λ z. is_state_of chart u z && is_above chart (scope chart t) z) z (all_states chart) m (Rattle.wf_model.proofs.Bools.and_true (is_state_of chart u z) (is_above chart (scope chart t) z) s h)

  fires_flat : (t : ℕ) → t < length chart.transitions → concerns chart u t ≡ true → fires_in (part_of chart u) a t ≡ fires_by (flat_of chart) (is_enabled chart b) t
  fires_flat t lt con = fires_known chart u ok a b alike t lt con ∙ sym (fires_same chart (is_enabled chart b) t lt)

  active_same : (z : ℕ) → is_state_of chart u z ≡ true → is_active a.seen z ≡ is_in z c.configuration
  active_same z s = alike.states z (or_left (is_state_of chart u z) (watches_state chart u z) s) ∙ ap (λ (o : Option Bool). unwrap_or o false) (snapshot_shows chart c es z)

  bit_same : (z : ℕ) → is_state_of chart u z ≡ true → Mem z (all_states chart) → is_in_after (fires_in (part_of chart u) a) (component_of chart z) (is_active a.seen z) ≡ is_in z (next_state chart c es).configuration
  unfolding next_state
  bit_same z s m =
      ap₂ (λ (i o : Bool). i || (is_active a.seen z && not o))
      (any_map (λ (i : TransId). fires_in (part_of chart u) a i.0) trans_id (filter (λ t. enters chart t z) (all_transitions chart))
      ∙ any_agree (fires_in (part_of chart u) a) (fires_by (flat_of chart) (is_enabled chart b)) (filter (λ t. enters chart t z) (all_transitions chart)) (λ t k.
      let f = filter_mem (λ t. enters chart t z) (all_transitions chart) t k in
      let lt = transition_mem chart t f.0 in
      fires_flat t lt (concerned t z s m (entered_is_below chart ok t z lt f.1)))
      ∙ sym (any_map (λ (i : TransId). fires_by (flat_of chart) (is_enabled chart b) i.0) trans_id (filter (λ t. enters chart t z) (all_transitions chart))))
      (any_map (λ (i : TransId). fires_in (part_of chart u) a i.0) trans_id (filter (λ t. leaves chart t z) (all_transitions chart))
      ∙ any_agree (fires_in (part_of chart u) a) (fires_by (flat_of chart) (is_enabled chart b)) (filter (λ t. leaves chart t z) (all_transitions chart)) (λ t k.
      let f = filter_mem (λ t. leaves chart t z) (all_transitions chart) t k in
      let lt = transition_mem chart t f.0 in
      fires_flat t lt (concerned t z s m (and_both (is_above chart (scope chart t) z) (not (enters chart t z)) f.1).0))
      ∙ sym (any_map (λ (i : TransId). fires_by (flat_of chart) (is_enabled chart b) i.0) trans_id (filter (λ t. leaves chart t z) (all_transitions chart))))
      ∙ ap (is_in_after (fires_by (flat_of chart) (is_enabled chart b)) (component_of chart z)) (active_same z s)
      ∙ sym (same_bit chart ok (is_enabled chart b) z c.configuration conf (enabled_sources chart b c.configuration (snapshot_shows chart c es)))

  same_flips : map (λ c. c.state) (filter (flips_in (part_of chart u) a) (part_of chart u).components) ≡ map state_id (moved_of_unit chart c es u)
  unfolding part_of
  same_flips =
      let zs : List ℕ = filter (is_state_of chart u) (all_states chart) in
      ap (map (λ (d : Component). d.state)) (filter_map_swap (component_of chart) (flips_in (part_of chart u) a) zs)
      ∙ map_map (λ (d : Component). d.state) (component_of chart) (filter (λ z. flips_in (part_of chart u) a (component_of chart z)) zs)
      ∙ ap (map state_id)
      (filter_agree (λ z. flips_in (part_of chart u) a (component_of chart z)) (λ z. differs (is_in z c.configuration) (is_in z (next_state chart c es).configuration)) zs (λ z m.
      let f = filter_mem (is_state_of chart u) (all_states chart) z m in
      ap₂ differs (active_same z f.1) (bit_same z f.1 f.0)))

  pub own_is_share : (k : ℕ) (outers : List Outer) → own_update (part_of chart u) k (shown (part_of chart u) c es) outers ≡ share_from chart c es u k outers
  unfolding part_step share_from
  own_is_share k outers = λ i. record {
    from = unit_of chart u i;
    step = k;
    flips = same_flips i;
    writes = same_writes i;
    raised = same_raised i;
    starts = same_starts i;
    fired = same_fired i;
    outer = outers;
  }
