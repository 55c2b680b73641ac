-- Each state and each transition is of one unit.
use Rattle.std.proofs.Common.{◌≡◌, ℕ, ◌+◌, ◌<◌, ◌==◌, ◌&&◌, nat_lt, Bool, true, false, List, length, filter, Option, unwrap_or, slice_get, get_or, inl, inr, sym, ap, ◌∙◌, subst, arith, ltb-true}
use Rattle.std.specs.Prelude.{option_map}
use Rattle.std.specs.Option.{option_map_or}
use Rattle.std.specs.List.{range_with_len}
use Rattle.std.specs.List.Sorted.{IsStrictlyIncreasing}
use Rattle.std.proofs.lemmas.Option.{slice_get_past}
use Rattle.std.proofs.lemmas.List.FromFn.{get_or-range_with_len, length-range_with_len}
use Rattle.std.proofs.lemmas.List.Kept.{IsStrictlyIncreasing-filter}
use Rattle.std.proofs.lemmas.Bool.Decides.{nat_tests}
use Rattle.wf_model.specs.declared.chart.Chart.{Chart}
use Rattle.wf_model.specs.declared.chart.State.{State}
use Rattle.wf_model.specs.declared.chart.Transition.{Transition}
use Rattle.wf_model.specs.declared.outer.Entry.{Entry}
use Rattle.wf_model.specs.Tree.{all_transitions, source, parent_of, is_among}
use Rattle.wf_model.specs.Accepted.{IsAccepted, is_unit, is_placed_state, follows}
use Rattle.wf_semantics.specs.Configuration.{IsConfiguration}
use Rattle.wf_semantics.specs.Snapshot.{is_enabled}
use Rattle.wf_semantics.specs.Flat.{fires}
use Rattle.wf_semantics.specs.Run.{CentralState, snapshot_of, fired_in}
use Rattle.wf_model.proofs.Bools.{and_both}
use Rattle.wf_semantics.proofs.Lists.{filter_agree}
use Rattle.wf_semantics.proofs.Children.{lt_or_ge, item_at}
use Rattle.wf_semantics.proofs.Facts.{chart_of, parts}
use Rattle.wf_semantics.proofs.Runs.{step_fires}
use Rattle.wf_parts.specs.Known.{is_state_of, is_own}
use Rattle.wf_views.proofs.Lists.{among_range}
use Rattle.wf_model.proofs.Items.{numbered_at}

-- a number of a filtered range
pub among_all : (test : ℕ → Bool) (n s : ℕ) → s < n → is_among (filter test (range_with_len 0 n)) s ≡ test s
among_all test n s lt =
    let at : nat_lt s (0 + n) ≡ true = grind (arith, nat_tests) in
    among_range test 0 n s (omega arith) ∙ ap (λ (b : Bool). b && test s) at

pub range_ascends : (n : ℕ) → IsStrictlyIncreasing (range_with_len 0 n)
range_ascends n k l =
    let long : length (range_with_len 0 n) ≡ n = length-range_with_len 0 n in
    let here : get_or (range_with_len 0 n) k 0 ≡ 0 + k = get_or-range_with_len 0 n k 0 (omega arith) in
    let next : get_or (range_with_len 0 n) (k + 1) 0 ≡ 0 + (k + 1) = get_or-range_with_len 0 n (k + 1) 0 (omega arith) in
    omega arith

module _ (chart : Chart) (ok : IsAccepted chart) where
  -- the unit of state z, and of transition t
  abbrev pub unit_at : ℕ → ℕ
  unit_at z = option_map_or (λ state. state.unit.0) (slice_get chart.states z) 0

  abbrev pub owner : ℕ → ℕ
  owner t = unit_at (source chart t)

  pub unit_below : (z : ℕ) → z < length chart.states → unit_at z < length chart.units
  unit_below z lt =
      let w = item_at chart.states z lt in
      let placed = numbered_at (is_placed_state chart) chart.states (parts chart ok).placed_states z w.0 w.1 in
      subst (λ (o : Option State). option_map_or (λ state. state.unit.0) o 0 < length chart.units) (sym w.1)
      (ltb-true w.0.unit.0 (length chart.units) (and_both (follows chart z (parent_of w.0)) (is_unit chart w.0.unit) placed).1)

  pub state_of_unit : (v z : ℕ) → z < length chart.states → is_state_of chart v z ≡ (unit_at z == v)
  state_of_unit v z lt =
      let w = item_at chart.states z lt in
      ap (λ (o : Option State). option_map_or (λ state. state.unit.0 == v) o false) w.1
      ∙ ap (λ (o : Option State). option_map_or (λ state. state.unit.0) o 0 == v) (sym w.1)

  pub source_inside : (t : ℕ) → source chart t < length chart.states
  source_inside t = elim (lt_or_ge t (length chart.transitions)) [
    | inl lt ↦ ((chart_of chart ok).sources t lt).1
    | inr ge ↦
        let none : source chart t ≡ 0 = ap (λ (o : Option Transition). unwrap_or (option_map (λ trans. trans.source.0) o) 0) (slice_get_past chart.transitions t ge) in
        omega (arith, none, (chart_of chart ok).some_state)
  ]

  pub owner_below : (t : ℕ) → owner t < length chart.units
  owner_below t = unit_below (source chart t) (source_inside t)

  pub own_by_owner : (v : ℕ) (ts : List ℕ) → filter (is_own chart v) ts ≡ filter (λ t. owner t == v) ts
  unfolding is_own
  own_by_owner v ts = filter_agree (is_own chart v) (λ t. owner t == v) ts (λ t m. state_of_unit v (source chart t) (source_inside t))

  pub fired_ascends : (c : CentralState) (es : List Entry) → IsConfiguration chart c.configuration → IsStrictlyIncreasing (fired_in chart c es)
  fired_ascends c es conf = subst (λ (l : List ℕ). IsStrictlyIncreasing l) (sym (step_fires chart (chart_of chart ok) c es conf))
      (IsStrictlyIncreasing-filter (fires chart (is_enabled chart (snapshot_of chart c es))) (all_transitions chart) (range_ascends (length chart.transitions)))
