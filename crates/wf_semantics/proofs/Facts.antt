-- What an accepted chart has, rule by rule.
use Rattle.std.proofs.Common.{◌≡◌, ℕ, zero, suc, ◌+◌, ◌-◌, ◌<◌, ◌≤◌, ◌==◌, ◌||◌, nat_lt, Bool, true, false, List, [], ◌∷◌, length, Option, Some, None, unwrap_or, slice_get, refl, sym, ap, ◌∙◌, subst, arith, eqb-true, true≢false, ltb-true, inl, inr}
use Rattle.std.specs.List.{list_all, enumerate_from}
use Rattle.std.specs.Option.{option_map, option_and_then}
use Rattle.std.proofs.lemmas.Bool.{leb-true}
use Rattle.wf_model.specs.Limits.{max_states, max_transitions, max_depth}
use Rattle.wf_model.specs.declared.ids.EventId.{EventId}
use Rattle.wf_model.specs.declared.chart.Chart.{Chart}
use Rattle.wf_model.specs.declared.chart.State.{State}
use Rattle.wf_model.specs.declared.chart.Transition.{Transition}
use Rattle.wf_model.specs.declared.chart.Kind.{Kind}
use Rattle.wf_model.specs.declared.chart.Kind.TheVariants.{Basic, Or, And}
use Rattle.wf_model.specs.Tree.{kind, is_or, parent, parent_of, children, source, target, ancestors, is_above}
use Rattle.wf_model.specs.Accepted.{IsAccepted, is_accepted, is_small, is_numbered, is_named, is_shaped, is_sorted, all_of, all_numbered, follows, suits, has_child, is_placed_state, is_shaped_state, is_known_transition, is_small_transition, spares_root, is_known_activity, is_placed_event, are_outputs, is_known_action, is_known_expr}
use Rattle.wf_model.proofs.Items.{all_at, numbered_at}
use Rattle.wf_model.proofs.Bools.{and_both}
use Rattle.wf_semantics.proofs.Children.{lt_or_ge, item_at, or_of, kind_past, has_children, has_no_children}

-- what the laws rest on
pub record IsChart (chart : Chart) : Type 0 where
  -- state 0 is an Or state without parent
  pub root_or : kind chart 0 ≡ Or
  pub root_top : parent chart 0 ≡ None
  pub some_state : 0 < length chart.states
  -- the parent of each other state is the state before it, or an ancestor of that
  pub preorder : (i : ℕ) → i + 1 < length chart.states → (p : ℕ) × (parent chart (i + 1) ≡ Some p) × (((p == i) || is_above chart p i) ≡ true)
  -- Or and And states have children, basic states have none
  pub or_has : (s : ℕ) → kind chart s ≡ Or → 0 < length (children chart s)
  pub and_has : (s : ℕ) → kind chart s ≡ And → 0 < length (children chart s)
  pub basic_has : (s : ℕ) → s < length chart.states → kind chart s ≡ Basic → children chart s ≡ []
  -- the source and the target of a transition are states other than the root
  pub sources : (t : ℕ) → t < length chart.transitions → (0 < source chart t) × (source chart t < length chart.states)
  pub targets : (t : ℕ) → t < length chart.transitions → (0 < target chart t) × (target chart t < length chart.states)
  -- the limits
  pub few_states : length chart.states ≤ max_states
  pub few_transitions : length chart.transitions ≤ max_transitions
  pub few_ancestors : (s : ℕ) → s < length chart.states → length (ancestors chart s) < max_depth
  -- there is an event 0, and each transition's event is one of the chart
  pub some_event : 0 < length chart.events
  pub known_event : (t : ℕ) (trans : Transition) (event : EventId) → slice_get chart.transitions t ≡ Some trans → trans.event ≡ Some event → event.0 < length chart.events

-- the rules, one by one
pub record AreRules (chart : Chart) : Type 0 where
  pub small : is_small chart ≡ true
  pub numbered : is_numbered chart ≡ true
  pub named : is_named chart ≡ true
  pub shaped : is_shaped chart ≡ true
  pub outputs : list_all are_outputs chart.acts ≡ true
  pub spared : list_all spares_root chart.transitions ≡ true
  pub sorted : is_sorted chart ≡ true

pub rules : (chart : Chart) → IsAccepted chart → AreRules chart
unfolding is_accepted
rules chart ok = record { small = grind arith; numbered = grind arith; named = grind arith; shaped = grind arith; outputs = grind arith; spared = grind arith; sorted = grind arith }

-- the parts of the rules on limits, numbers and shape
pub record AreParts (chart : Chart) : Type 0 where
  pub few_states : length chart.states ≤ max_states
  pub few_transitions : length chart.transitions ≤ max_transitions
  pub small_transitions : list_all is_small_transition chart.transitions ≡ true
  pub some_event : 0 < length chart.events
  pub placed_events : all_numbered (is_placed_event chart) chart.events ≡ true
  pub known_activities : list_all (is_known_activity chart) chart.acts ≡ true
  pub placed_states : all_numbered (is_placed_state chart) chart.states ≡ true
  pub known_transitions : list_all (is_known_transition chart) chart.transitions ≡ true
  pub root_or : is_or (kind chart 0) ≡ true
  pub shaped_states : all_numbered (is_shaped_state chart) chart.states ≡ true

parts_of : (chart : Chart) → is_small chart ≡ true → is_numbered chart ≡ true → is_shaped chart ≡ true → AreParts chart
unfolding is_small is_numbered is_shaped
parts_of chart small numbered shaped = record {
  few_states = leb-true (length chart.states) max_states (grind arith);
  few_transitions = leb-true (length chart.transitions) max_transitions (grind arith);
  small_transitions = grind arith;
  some_event = ltb-true 0 (length chart.events) (grind arith);
  placed_events = grind arith;
  known_activities = grind arith;
  placed_states = grind arith;
  known_transitions = grind arith;
  root_or = grind arith;
  shaped_states = grind arith;
}

pub parts : (chart : Chart) → IsAccepted chart → AreParts chart
parts chart ok = let r = rules chart ok in parts_of chart r.small r.numbered r.shaped

-- a state other than the root has a parent, which is the state before it or above that
parent_of_next : (chart : Chart) (i : ℕ) (o : Option ℕ) → follows chart (i + 1) o ≡ true → (p : ℕ) × (o ≡ Some p) × (((p == i) || is_above chart p i) ≡ true)
parent_of_next chart i None h = absurd (omega (arith, eqb-true (i + 1) 0 h))
parent_of_next chart i (Some p) h =
    let less : (i + 1) - 1 ≡ i = omega arith in
    (p, refl, ap (λ (j : ℕ). (p == j) || is_above chart p j) (sym less) ∙ (and_both (nat_lt 0 (i + 1)) ((p == ((i + 1) - 1)) || is_above chart p ((i + 1) - 1)) h).1)

no_parent : (chart : Chart) (o : Option ℕ) → follows chart 0 o ≡ true → o ≡ None
no_parent chart None h = refl
no_parent chart (Some p) h = absurd (true≢false (sym h))

childless : (k : Kind) (has : Bool) → suits k has ≡ true → k ≡ Basic → has ≡ true → ⊥
childless Basic true h e q = true≢false (sym h)
childless Basic false h e q = true≢false (sym q)
childless Or has h e q = cc
childless And has h e q = cc

with_children : (k : Kind) (has : Bool) → suits k has ≡ true → (k ≡ Basic → ⊥) → has ≡ true
with_children Basic has h ne = absurd (ne refl)
with_children Or has h ne = h
with_children And has h ne = h

module _ (chart : Chart) (p : AreParts chart) where
  some_state : 0 < length chart.states
  some_state = elim (lt_or_ge 0 (length chart.states)) [
    | inl l ↦ l
    | inr g ↦ absurd (not_or (sym (or_of (kind chart 0) p.root_or) ∙ kind_past chart 0 (omega arith)))
  ]
    where
      not_or : Or ≡ Basic → ⊥
      not_or q = cc

  placed : (s : ℕ) → s < length chart.states → follows chart s (parent chart s) ≡ true
  placed s lt =
      let w = item_at chart.states s lt in
      ap (follows chart s) (ap (option_and_then parent_of) w.1)
      ∙ (and_both (follows chart s (parent_of w.0)) (Rattle.wf_model.specs.Accepted.is_unit chart w.0.unit) (numbered_at (is_placed_state chart) chart.states p.placed_states s w.0 w.1)).0

  shaped : (s : ℕ) → s < length chart.states → (length (ancestors chart s) < max_depth) × (suits (kind chart s) (has_child chart s) ≡ true)
  shaped s lt =
      let w = item_at chart.states s lt in
      let both = and_both (nat_lt (length (ancestors chart s)) max_depth) (suits w.0.kind (has_child chart s)) (numbered_at (is_shaped_state chart) chart.states p.shaped_states s w.0 w.1) in (
        ltb-true (length (ancestors chart s)) max_depth both.0,
        ap (λ (o : Option State). suits (unwrap_or (option_map (λ state. state.kind) o) Basic) (has_child chart s)) w.1 ∙ both.1,
      )

  -- a state with a kind other than basic is one of the chart
  inside : (s : ℕ) → (kind chart s ≡ Basic → ⊥) → s < length chart.states
  inside s ne = elim (lt_or_ge s (length chart.states)) [ inl l ↦ l | inr g ↦ absurd (ne (kind_past chart s g)) ]

  has : (s : ℕ) → (kind chart s ≡ Basic → ⊥) → 0 < length (children chart s)
  has s ne = has_children chart s (with_children (kind chart s) (has_child chart s) (shaped s (inside s ne)).1 ne)

  known : (t : ℕ) (trans : Transition) → slice_get chart.transitions t ≡ Some trans → is_known_transition chart trans ≡ true
  known t trans e = all_at (is_known_transition chart) chart.transitions p.known_transitions t trans e

  event_known : (t : ℕ) (trans : Transition) (event : EventId) → slice_get chart.transitions t ≡ Some trans → trans.event ≡ Some event → event.0 < length chart.events
  event_known t trans event e q =
      let k = known t trans e in
      let passes : all_of (λ (event : EventId). nat_lt event.0 (length chart.events)) trans.event ≡ true = grind arith in
      ltb-true event.0 (length chart.events) (ap (all_of (λ (event : EventId). nat_lt event.0 (length chart.events))) (sym q) ∙ passes)

  ends : (t : ℕ) → t < length chart.transitions → list_all spares_root chart.transitions ≡ true → ((0 < source chart t) × (source chart t < length chart.states)) × ((0 < target chart t) × (target chart t < length chart.states))
  ends t lt spared =
      let w = item_at chart.transitions t lt in
      let k = known t w.0 w.1 in
      let q = all_at spares_root chart.transitions spared t w.0 w.1 in
      let both = and_both (nat_lt 0 w.0.source.0) (nat_lt 0 w.0.target.0) q in
      let from : source chart t ≡ w.0.source.0 = ap (λ (o : Option Transition). unwrap_or (option_map (λ trans. trans.source.0) o) 0) w.1 in
      let to : target chart t ≡ w.0.target.0 = ap (λ (o : Option Transition). unwrap_or (option_map (λ trans. trans.target.0) o) 0) w.1 in
      let from_known : nat_lt w.0.source.0 (length chart.states) ≡ true = grind arith in
      let to_known : nat_lt w.0.target.0 (length chart.states) ≡ true = grind arith in (
        (omega (arith, from, ltb-true 0 w.0.source.0 both.0), omega (arith, from, ltb-true w.0.source.0 (length chart.states) from_known)),
        (omega (arith, to, ltb-true 0 w.0.target.0 both.1), omega (arith, to, ltb-true w.0.target.0 (length chart.states) to_known)),
      )

-- an accepted chart has them all
pub chart_of : (chart : Chart) → IsAccepted chart → IsChart chart
chart_of chart ok =
    let r = rules chart ok in
    let p = parts_of chart r.small r.numbered r.shaped in
    record {
      root_or = or_of (kind chart 0) p.root_or;
      root_top = no_parent chart (parent chart 0) (placed chart p 0 (some_state chart p));
      some_state = some_state chart p;
      preorder = λ i lt. parent_of_next chart i (parent chart (i + 1)) (placed chart p (i + 1) lt);
      or_has = λ s e. has chart p s (λ q. basic_not_or (sym q ∙ e));
      and_has = λ s e. has chart p s (λ q. basic_not_and (sym q ∙ e));
      basic_has = λ s lt e. has_no_children chart s (childless (kind chart s) (has_child chart s) (shaped chart p s lt).1 e);
      sources = λ t lt. (ends chart p t lt r.spared).0;
      targets = λ t lt. (ends chart p t lt r.spared).1;
      few_states = p.few_states;
      few_transitions = p.few_transitions;
      few_ancestors = λ s lt. (shaped chart p s lt).0;
      some_event = p.some_event;
      known_event = event_known chart p;
    }
  where
    basic_not_or : Basic ≡ Or → ⊥
    basic_not_or q = cc

    basic_not_and : Basic ≡ And → ⊥
    basic_not_and q = cc
