-- An own update is in the ranges and orders of the format.
use Rattle.std.proofs.Common.{◌≡◌, ℕ, suc, ◌+◌, ◌*◌, ◌<◌, ◌≤◌, ◌==◌, ◌&&◌, nat_lt, nat_le, cond, Bool, true, false, List, [], ◌∷◌, ◌++◌, length, map, filter, filter_map, flat_map, Option, Some, None, Result, Ok, Err, slice_get, inl, inr, refl, sym, ap, ◌∙◌, subst, arith, eqb-true, true≢false, ltb-true, lt-ltb}
use Rattle.std.specs.Prelude.{option_map, unwrap_or}
use Rattle.std.specs.Option.{option_map_or}
use Rattle.std.specs.Result.{result_ok}
use Rattle.std.specs.List.{list_all, range_with_len, cons_option, AllByRecursion}
use Rattle.std.proofs.lemmas.Bool.{leb-true}
use Rattle.std.proofs.lemmas.List.Folds.{list_all-map, flat_map-map}
use Rattle.std.proofs.lemmas.List.FromFn.{length-range_with_len}
use Rattle.std.proofs.lemmas.Option.{slice_get_within}
use Rattle.wf_model.specs.Limits.{max_events, max_vars, max_acts, max_states, max_transitions, max_actions, max_outputs, max_fired, max_starts}
use Rattle.wf_model.specs.declared.ids.StateId.{StateId}
use Rattle.wf_model.specs.declared.ids.VarId.{VarId}
use Rattle.wf_model.specs.declared.ids.EventId.{EventId}
use Rattle.wf_model.specs.declared.ids.TransId.{TransId}
use Rattle.wf_model.specs.declared.expr.Fault.{Fault}
use Rattle.wf_model.specs.declared.value.Val.{Val}
use Rattle.wf_model.specs.declared.chart.Action.{Action}
use Rattle.wf_model.specs.declared.chart.Action.TheVariants.{Assign, Raise, Start}
use Rattle.wf_model.specs.declared.chart.Activity.{Activity}
use Rattle.wf_model.specs.declared.chart.Event.{Event}
use Rattle.wf_model.specs.declared.chart.Chart.{Chart}
use Rattle.wf_model.specs.declared.chart.Transition.{Transition}
use Rattle.wf_model.specs.declared.outer.Output.{Output}
use Rattle.wf_model.specs.declared.outer.Outer.{Outer}
use Rattle.wf_model.specs.declared.outer.Outer.TheVariants.{Happen, Complete}
use Rattle.wf_parts.specs.declared.data.Component.{Component}
use Rattle.wf_parts.specs.declared.data.PartTransition.{PartTransition}
use Rattle.wf_model.specs.declared.update.Write.{Write}
use Rattle.wf_model.specs.declared.update.StartAt.{StartAt}
use Rattle.wf_model.specs.Seen.{val_sort}
use Rattle.wf_model.specs.Sorts.{var_sort, alike}
use Rattle.wf_model.specs.Values.{value_of}
use Rattle.wf_model.specs.Tree.{all_states}
use Rattle.wf_model.specs.Accepted.{IsAccepted, is_known_action, is_known_expr, is_known_transition, is_known_activity, is_unit}
use Rattle.wf_codec.specs.Ranges.{InOrder, IsEarlier, IsWrite, IsStart, IsOuter, chart_numbers}
use Rattle.wf_semantics.specs.Snapshot.{Snapshot}
use Rattle.wf_semantics.specs.Effects.{starts_from}
use Rattle.wf_semantics.specs.Admission.{is_event_at, is_act_at, are_values, are_outputs_of}
use Rattle.wf_model.proofs.Bools.{Mem, or_cases, and_both, and_true}
use Rattle.wf_semantics.proofs.Lists.{range_mem, filter_mem}
use Rattle.wf_semantics.proofs.Children.{item_at}
use Rattle.wf_semantics.proofs.Facts.{chart_of, parts}
use Rattle.wf_actions.specs.Writes.{merged}
use Rattle.wf_actions.specs.Store.{write_of}
use Rattle.wf_runs.specs.Starts.{is_earlier}
use Rattle.wf_parts.specs.Components.{component_of}
use Rattle.wf_parts.specs.Known.{is_state_of, is_own}
use Rattle.wf_parts.specs.Parts.{part_of}
use Rattle.wf_views.specs.Views.{View, sees}
use Rattle.wf_views.specs.OwnSteps.{own_fired, is_raised_by, flips_in, part_step, own_update}
use Rattle.wf_lockstep.specs.Within.{is_at_unit}
use Rattle.wf_lockstep.specs.Ordered.{starts_ascend, Ascends}
use Rattle.wf_views.proofs.Lists.{map_map}
use Rattle.wf_lockstep.proofs.Numbered.{filter_map_swap}
use Rattle.wf_lockstep.proofs.Firing.{trans_at, trans_id_at, own_actions}
use Rattle.wf_lockstep.proofs.Within.{all_flat, merged_pass, mine, mine_owned, own_fired_at}
use Rattle.wf_lockstep.proofs.Ordered.{own_ascends}
use Rattle.wf_lockstep.proofs.Starts.{own_starts_ascend}
use Rattle.wf_owns.specs.Ranges.{has_item, OwnInRange}
use Rattle.wf_owns.proofs.Small.{few, few_actions, all_by, ascend}
use Rattle.wf_owns.proofs.Apart.{mine_few}
use Rattle.wf_model.proofs.Items.{all_at}
use Rattle.wf_model.specs.Ids.{event_id}

-- a test that a number is below another one
below : (a b c : ℕ) → nat_lt a b ≡ true → b ≤ c → nat_lt a c ≡ true
below a b c h le = let lt = ltb-true a b h in lt-ltb a c (omega (arith, lt, le))

all_mem : (p : ℕ → Bool) (xs : List ℕ) → ((x : ℕ) → Mem x xs → p x ≡ true) → list_all p xs ≡ true
all_mem p [] h = refl
all_mem p (x ∷ xs) h = and_true (p x) (list_all p xs) (h x (inl refl)) (all_mem p xs (λ y m. h y (inr m)))

starts_in_order : (ss : List StartAt) → starts_ascend ss ≡ true → InOrder IsEarlier ss
starts_in_order [] h = tt
starts_in_order (s ∷ []) h = tt
starts_in_order (s ∷ (t ∷ ts)) h =
    let a = and_both (list_all (is_earlier s) (t ∷ ts)) (starts_ascend (t ∷ ts)) h in
    let b = and_both (is_earlier s t) (list_all (is_earlier s) ts) a.0 in (
      elim (or_cases (nat_lt s.trans.0 t.trans.0) ((s.trans.0 == t.trans.0) && nat_lt s.place t.place) b.0) [
        | inl l ↦ inl (ltb-true s.trans.0 t.trans.0 l)
        | inr r ↦ let w = and_both (s.trans.0 == t.trans.0) (nat_lt s.place t.place) r in inr (eqb-true s.trans.0 t.trans.0 w.0, ltb-true s.place t.place w.1)
      ],
      starts_in_order (t ∷ ts) a.1,
    )

-- WHAT ACTIONS OF AN ACCEPTED CHART DO

abbrev is_write : Write → Bool
is_write w = nat_lt w.var.0 max_vars && nat_lt w.trans.0 max_transitions

abbrev is_start : StartAt → Bool
is_start s = nat_lt s.act.0 max_acts && (nat_lt s.trans.0 max_transitions && nat_lt s.place max_actions)

module _ (chart : Chart) (ok : IsAccepted chart) (snap : Snapshot) (t : ℕ) (small : nat_lt t max_transitions ≡ true) where
  writes_few : (xs : List Action) → list_all (is_known_action chart) xs ≡ true → list_all is_write (filter_map (write_of snap.seen t) xs) ≡ true
  writes_few [] h = refl
  writes_few (Raise e ∷ xs) h = writes_few xs (and_both (is_known_action chart (Raise e)) (list_all (is_known_action chart) xs) h).1
  writes_few (Start a ∷ xs) h = writes_few xs (and_both (is_known_action chart (Start a)) (list_all (is_known_action chart) xs) h).1
  writes_few (Assign y value ∷ xs) h =
      let both = and_both (is_known_action chart (Assign y value)) (list_all (is_known_action chart) xs) h in
      go (value_of snap.seen value) (below y.0 (length chart.vars) max_vars (and_both (nat_lt y.0 (length chart.vars)) (is_known_expr chart value) both.0).0 (few chart ok).vars) (writes_few xs both.1)
    where
      go : (r : Result Val Fault) → nat_lt y.0 max_vars ≡ true → list_all is_write (filter_map (write_of snap.seen t) xs) ≡ true →
          list_all is_write (cons_option (option_map (λ val. record { var = y; trans = record { 0 = t }; val = val }) (result_ok r)) (filter_map (write_of snap.seen t) xs)) ≡ true
      go (Ok val) v ih = and_true (nat_lt y.0 max_vars && nat_lt t max_transitions) (list_all is_write (filter_map (write_of snap.seen t) xs)) (and_true (nat_lt y.0 max_vars) (nat_lt t max_transitions) v small) ih
      go (Err d) v ih = ih

  starts_fit : (place : ℕ) (xs : List Action) → place + length xs ≤ max_actions → list_all (is_known_action chart) xs ≡ true → list_all is_start (starts_from t place xs) ≡ true
  starts_fit place [] le h = refl
  starts_fit place (Raise e ∷ xs) le h = starts_fit (place + 1) xs (omega arith) (and_both (is_known_action chart (Raise e)) (list_all (is_known_action chart) xs) h).1
  starts_fit place (Assign y value ∷ xs) le h = starts_fit (place + 1) xs (omega arith) (and_both (is_known_action chart (Assign y value)) (list_all (is_known_action chart) xs) h).1
  starts_fit place (Start a ∷ xs) le h =
      let both = and_both (is_known_action chart (Start a)) (list_all (is_known_action chart) xs) h in
      and_true (nat_lt a.0 max_acts && (nat_lt t max_transitions && nat_lt place max_actions)) (list_all is_start (starts_from t (place + 1) xs))
      (and_true (nat_lt a.0 max_acts) (nat_lt t max_transitions && nat_lt place max_actions) (below a.0 (length chart.acts) max_acts both.0 (few chart ok).acts)
      (and_true (nat_lt t max_transitions) (nat_lt place max_actions) small (lt-ltb place max_actions (omega arith))))
      (starts_fit (place + 1) xs (omega arith) both.1)

starts_short : (t place : ℕ) (xs : List Action) → length (starts_from t place xs) ≤ length xs
starts_short t place [] = omega arith
starts_short t place (Assign x value ∷ xs) = let ih = starts_short t (place + 1) xs in omega (arith, ih)
starts_short t place (Raise e ∷ xs) = let ih = starts_short t (place + 1) xs in omega (arith, ih)
starts_short t place (Start a ∷ xs) = let ih = starts_short t (place + 1) xs in omega (arith, ih)

pub length_append : {A : Type 0} (xs ys : List A) → length (xs ++ ys) ≡ length xs + length ys
length_append [] ys = omega arith
length_append (x ∷ xs) ys = let ih = length_append xs ys in omega (arith, ih)

flat_short : {A : Type 0} (f : ℕ → List A) (most : ℕ) (ts : List ℕ) → ((t : ℕ) → Mem t ts → length (f t) ≤ most) → length (flat_map f ts) ≤ most * length ts
flat_short f most [] h = omega arith
flat_short f most (t ∷ ts) h =
    let a = length_append (f t) (flat_map f ts) in
    let b = h t (inl refl) in
    let ih = flat_short f most ts (λ s m. h s (inr m)) in
    let c : most * suc (length ts) ≡ most + most * length ts = omega arith in
    omega (arith, a, b, ih, c)

pub filter_short : {A : Type 0} (p : A → Bool) (xs : List A) → length (filter p xs) ≤ length xs
filter_short p [] = omega arith
filter_short p (x ∷ xs) = go (p x) (filter_short p xs)
  where
    go : (b : Bool) → length (filter p xs) ≤ length xs → length (cond b (x ∷ filter p xs) (filter p xs)) ≤ suc (length xs)
    go true ih = omega (arith, ih)
    go false ih = omega (arith, ih)

pub length_map : {A B : Type 0} (f : A → B) (xs : List A) → length (map f xs) ≡ length xs
length_map f [] = refl
length_map f (x ∷ xs) = ap suc (length_map f xs)

-- OUTERS

module _ (chart : Chart) (u : ℕ) (ok : IsAccepted chart) where
  outputs_fit : (xs : List VarId) (os : List Output) → list_all (λ x. nat_lt x.0 (length chart.vars)) xs ≡ true → are_values chart xs os ≡ true → (length os ≡ length xs) × AllByRecursion (λ (o : Output). o.var.0 < max_vars) os
  outputs_fit [] [] k h = (refl, tt)
  outputs_fit [] (o ∷ os) k h = absurd (true≢false (sym h))
  outputs_fit (x ∷ xs) [] k h = absurd (true≢false (sym h))
  outputs_fit (x ∷ xs) (o ∷ os) k h =
      let both = and_both (nat_lt x.0 (length chart.vars)) (list_all (λ x. nat_lt x.0 (length chart.vars)) xs) k in
      let w = and_both (o.var.0 == x.0) (option_map_or (λ sort. alike sort (val_sort o.val)) (var_sort chart x.0) false && are_values chart xs os) h in
      let e : o.var.0 ≡ x.0 = eqb-true o.var.0 x.0 w.0 in
      let lt : x.0 < length chart.vars = ltb-true x.0 (length chart.vars) both.0 in
      let f = (few chart ok).vars in
      let ih = outputs_fit xs os both.1 (and_both (option_map_or (λ sort. alike sort (val_sort o.val)) (var_sort chart x.0) false) (are_values chart xs os) w.1).1 in
      (ap suc ih.0, (omega (arith, e, lt, f), ih.1))

  act_below : (a : ℕ) (os : List Output) → is_act_at chart u a ≡ true → are_outputs_of chart a os ≡ true → (a < max_acts) × (length os ≤ max_outputs) × AllByRecursion (λ (o : Output). o.var.0 < max_vars) os
  act_below a os at outs = go (slice_get chart.acts a) refl outs
    where
      go : (o : Option Activity) → slice_get chart.acts a ≡ o → option_map_or (λ act. are_values chart act.outputs os) o false ≡ true → (a < max_acts) × (length os ≤ max_outputs) × AllByRecursion (λ (o : Output). o.var.0 < max_vars) os
      go None e h = absurd (true≢false (sym h))
      go (Some act) e h =
          let known : is_known_activity chart act ≡ true = all_at (is_known_activity chart) chart.acts (parts chart ok).known_activities a act e in
          let w = outputs_fit act.outputs os (and_both (is_unit chart act.unit) (list_all (λ x. nat_lt x.0 (length chart.vars)) act.outputs) known).1 h in
          let n : length act.outputs ≤ max_outputs = leb-true (length act.outputs) max_outputs (all_at (λ (a : Activity). nat_le (length a.outputs) max_outputs) chart.acts (few chart ok).outputs a act e) in
          let lt = slice_get_within chart.acts a act e in
          let f = (few chart ok).acts in
          (omega (arith, lt, f), omega (arith, n, w.0), w.1)

  event_below : (e : ℕ) → is_event_at chart u e ≡ true → e < max_events
  event_below e h = go (slice_get chart.events e) refl h
    where
      go : (o : Option Event) → slice_get chart.events e ≡ o → option_map_or (λ event. option_map_or (λ unit. unit.0 == u) event.unit false) o false ≡ true → e < max_events
      go None q k = absurd (true≢false (sym k))
      go (Some event) q k = let lt = slice_get_within chart.events e event q in let f = (few chart ok).events in omega (arith, lt, f)

  pub outer_fits : (o : Outer) → is_at_unit chart u o ≡ true → has_item o ≡ true → IsOuter chart_numbers o
  outer_fits (Happen e) h i = event_below e.0 h
  outer_fits (Complete n a os) h i = let w = and_both (is_act_at chart u a.0) (are_outputs_of chart a.0 os) h in let b = act_below a.0 os w.0 w.1 in (leb-true 1 n i, b.0, b.1, b.2)

  pub outers_fit : (os : List Outer) → list_all (is_at_unit chart u) os ≡ true → list_all has_item os ≡ true → AllByRecursion (IsOuter chart_numbers) os
  outers_fit [] h i = tt
  outers_fit (o ∷ os) h i =
      let a = and_both (is_at_unit chart u o) (list_all (is_at_unit chart u) os) h in
      let b = and_both (has_item o) (list_all has_item os) i in
      (outer_fits o a.0 b.0, outers_fit os a.1 b.1)

-- THE UPDATE

module _ (chart : Chart) (u : ℕ) (ok : IsAccepted chart) (snap : Snapshot) where
  small_trans : (t : ℕ) → t < length chart.transitions → nat_lt t max_transitions ≡ true
  small_trans t lt = let f = (chart_of chart ok).few_transitions in lt-ltb t max_transitions (omega (arith, lt, f))

  -- what an own transition does
  actions_fit : (t : ℕ) → t < length chart.transitions → is_own chart u t ≡ true → (list_all (is_known_action chart) (trans_at chart u t).actions ≡ true) × (length (trans_at chart u t).actions ≤ max_actions)
  actions_fit t lt own =
      let w = item_at chart.transitions t lt in
      let same : (trans_at chart u t).actions ≡ w.0.actions = own_actions chart u t own ∙ ap (λ (o : Option Transition). unwrap_or (option_map (λ trans. trans.actions) o) []) w.1 in
      let known : is_known_transition chart w.0 ≡ true = all_at (is_known_transition chart) chart.transitions (parts chart ok).known_transitions t w.0 w.1 in
      let all : list_all (is_known_action chart) w.0.actions ≡ true = grind arith in
      let few : length w.0.actions ≤ max_actions = few_actions chart t w.0 ok w.1 in
      (ap (list_all (is_known_action chart)) same ∙ all, subst (λ (l : List Action). length l ≤ max_actions) (sym same) few)

  trans_small : (t : ℕ) → t < length chart.transitions → nat_lt (trans_at chart u t).id.0 max_transitions ≡ true
  trans_small t lt = ap (λ (i : TransId). nat_lt i.0 max_transitions) (trans_id_at chart u t) ∙ small_trans t lt

  writes_fit : list_all is_write (merged (flat_map (λ p. filter_map (write_of snap.seen p.id.0) p.actions) (own_fired (part_of chart u) snap))) ≡ true
  writes_fit =
      merged_pass is_write (flat_map (λ p. filter_map (write_of snap.seen p.id.0) p.actions) (own_fired (part_of chart u) snap))
      (ap (list_all is_write) (ap (flat_map (λ (p : PartTransition). filter_map (write_of snap.seen p.id.0) p.actions)) (own_fired_at chart u snap)
      ∙ flat_map-map (λ (p : PartTransition). filter_map (write_of snap.seen p.id.0) p.actions) (trans_at chart u) (mine chart u snap))
      ∙ all_flat is_write (λ t. filter_map (write_of snap.seen (trans_at chart u t).id.0) (trans_at chart u t).actions) (mine chart u snap) (λ t m.
      let o = mine_owned chart u snap t m in
      writes_few chart ok snap (trans_at chart u t).id.0 (trans_small t o.0) (trans_at chart u t).actions (actions_fit t o.0 o.1).0))

  starts_are : flat_map (λ p. starts_from p.id.0 0 p.actions) (own_fired (part_of chart u) snap) ≡ flat_map (λ t. starts_from (trans_at chart u t).id.0 0 (trans_at chart u t).actions) (mine chart u snap)
  starts_are =
      ap (flat_map (λ (p : PartTransition). starts_from p.id.0 0 p.actions)) (own_fired_at chart u snap)
      ∙ flat_map-map (λ (p : PartTransition). starts_from p.id.0 0 p.actions) (trans_at chart u) (mine chart u snap)

  starts_in : list_all is_start (flat_map (λ p. starts_from p.id.0 0 p.actions) (own_fired (part_of chart u) snap)) ≡ true
  starts_in =
      ap (list_all is_start) starts_are
      ∙ all_flat is_start (λ t. starts_from (trans_at chart u t).id.0 0 (trans_at chart u t).actions) (mine chart u snap) (λ t m.
      let o = mine_owned chart u snap t m in
      let a = actions_fit t o.0 o.1 in
      let le = a.1 in
      starts_fit chart ok snap (trans_at chart u t).id.0 (trans_small t o.0) 0 (trans_at chart u t).actions (omega (arith, le)) a.0)

  pub own_starts_few : length (flat_map (λ p. starts_from p.id.0 0 p.actions) (own_fired (part_of chart u) snap)) ≤ max_starts
  own_starts_few =
      let a : length (flat_map (λ p. starts_from p.id.0 0 p.actions) (own_fired (part_of chart u) snap)) ≡ length (flat_map (λ t. starts_from (trans_at chart u t).id.0 0 (trans_at chart u t).actions) (mine chart u snap)) = ap (λ (l : List StartAt). length l) starts_are in
      let b : length (flat_map (λ t. starts_from (trans_at chart u t).id.0 0 (trans_at chart u t).actions) (mine chart u snap)) ≤ max_actions * length (mine chart u snap) =
      flat_short (λ t. starts_from (trans_at chart u t).id.0 0 (trans_at chart u t).actions) max_actions (mine chart u snap) (λ t m.
      let o = mine_owned chart u snap t m in
      let c = starts_short (trans_at chart u t).id.0 0 (trans_at chart u t).actions in
      let d = (actions_fit t o.0 o.1).1 in omega (arith, c, d)) in
      let few = mine_few chart u ok snap in
      omega (arith, a, b, few)

  fired_are : map (λ p. p.id) (own_fired (part_of chart u) snap) ≡ map (λ t. (trans_at chart u t).id) (mine chart u snap)
  fired_are = ap (map (λ (p : PartTransition). p.id)) (own_fired_at chart u snap) ∙ map_map (λ (p : PartTransition). p.id) (trans_at chart u) (mine chart u snap)

  fired_fit : list_all (λ (i : TransId). nat_lt i.0 max_transitions) (map (λ p. p.id) (own_fired (part_of chart u) snap)) ≡ true
  fired_fit =
      ap (list_all (λ (i : TransId). nat_lt i.0 max_transitions)) fired_are
      ∙ list_all-map (λ (i : TransId). nat_lt i.0 max_transitions) (λ t. (trans_at chart u t).id) (mine chart u snap)
      ∙ all_mem (λ t. nat_lt (trans_at chart u t).id.0 max_transitions) (mine chart u snap) (λ t m. trans_small t (mine_owned chart u snap t m).0)

  fired_few : length (map (λ p. p.id) (own_fired (part_of chart u) snap)) ≤ max_fired
  fired_few =
      let a : length (map (λ p. p.id) (own_fired (part_of chart u) snap)) ≡ length (map (λ t. (trans_at chart u t).id) (mine chart u snap)) = ap (λ (l : List TransId). length l) fired_are in
      let b = length_map (λ t. (trans_at chart u t).id) (mine chart u snap) in
      let few = mine_few chart u ok snap in
      omega (arith, a, b, few)

  abbrev raised_numbers : List ℕ
  raised_numbers = filter (is_raised_by snap (own_fired (part_of chart u) snap)) (range_with_len 0 max_events)

  raised_fit : list_all (λ (e : EventId). nat_lt e.0 max_events) (map event_id raised_numbers) ≡ true
  raised_fit =
      list_all-map (λ (e : EventId). nat_lt e.0 max_events) event_id raised_numbers
      ∙ all_mem (λ e. nat_lt e max_events) raised_numbers (λ e m.
      let r = range_mem 0 max_events e (filter_mem (is_raised_by snap (own_fired (part_of chart u) snap)) (range_with_len 0 max_events) e m).0 in
      let lt = r.1 in lt-ltb e max_events (omega (arith, lt)))

  states_small : (zs : List ℕ) → ((z : ℕ) → Mem z zs → z < max_states) → list_all (λ (s : StateId). nat_lt s.0 max_states) (map (λ c. c.state) (map (component_of chart) zs)) ≡ true
  states_small [] h = refl
  states_small (z ∷ zs) h = and_true (nat_lt z max_states) (list_all (λ (s : StateId). nat_lt s.0 max_states) (map (λ c. c.state) (map (component_of chart) zs))) (lt-ltb z max_states (h z (inl refl))) (states_small zs (λ y m. h y (inr m)))

  abbrev moved : List ℕ
  moved = filter (λ z. flips_in (part_of chart u) snap (component_of chart z)) (filter (is_state_of chart u) (all_states chart))

  flips_are : map (λ c. c.state) (filter (flips_in (part_of chart u) snap) (part_of chart u).components) ≡ map (λ c. c.state) (map (component_of chart) moved)
  unfolding part_of
  flips_are = ap (map (λ (c : Component). c.state)) (filter_map_swap (component_of chart) (flips_in (part_of chart u) snap) (filter (is_state_of chart u) (all_states chart)))

  flips_fit : list_all (λ (s : StateId). nat_lt s.0 max_states) (map (λ c. c.state) (filter (flips_in (part_of chart u) snap) (part_of chart u).components)) ≡ true
  flips_fit =
      ap (list_all (λ (s : StateId). nat_lt s.0 max_states)) flips_are
      ∙ states_small moved (λ z m.
      let a = filter_mem (λ z. flips_in (part_of chart u) snap (component_of chart z)) (filter (is_state_of chart u) (all_states chart)) z m in
      let b = filter_mem (is_state_of chart u) (all_states chart) z a.0 in
      let r = (range_mem 0 (length chart.states) z b.0).1 in
      let f = (chart_of chart ok).few_states in omega (arith, r, f))

  flips_few : length (map (λ c. c.state) (filter (flips_in (part_of chart u) snap) (part_of chart u).components)) ≤ max_states
  flips_few =
      let a : length (map (λ c. c.state) (filter (flips_in (part_of chart u) snap) (part_of chart u).components)) ≡ length (map (λ c. c.state) (map (component_of chart) moved)) = ap (λ (l : List StateId). length l) flips_are in
      let b = length_map (λ (c : Component). c.state) (map (component_of chart) moved) in
      let c = length_map (component_of chart) moved in
      let d = filter_short (λ z. flips_in (part_of chart u) snap (component_of chart z)) (filter (is_state_of chart u) (all_states chart)) in
      let e = filter_short (is_state_of chart u) (all_states chart) in
      let n = length-range_with_len 0 (length chart.states) in
      let f = (chart_of chart ok).few_states in
      omega (arith, a, b, c, d, e, n, f)

unit_is : (chart : Chart) (u k : ℕ) (view : View) (outers : List Outer) → (own_update (part_of chart u) k view outers).from.0 ≡ u
unfolding part_step part_of
unit_is chart u k view outers = refl

pub own_in_range : OwnInRange
unfolding part_step
own_in_range chart u k view outers ok lt one most short at items =
    let snap : Snapshot = sees (part_of chart u) view in
    let asc : Ascends (own_update (part_of chart u) k view outers) = own_ascends chart u k view outers in
    let f = (few chart ok).units in (
      record {
        from = let e = unit_is chart u k view outers in omega (arith, lt, f, e);
        step = (one, most);
        flips = all_by (λ (s : StateId). nat_lt s.0 max_states) (λ s. s.0 < max_states) (λ s h. ltb-true s.0 max_states h) (map (λ c. c.state) (filter (flips_in (part_of chart u) snap) (part_of chart u).components)) (flips_fit chart u ok snap);
        flips_ascend = ascend (λ s. s.0) (map (λ c. c.state) (filter (flips_in (part_of chart u) snap) (part_of chart u).components)) asc.flips;
        writes = all_by is_write IsWrite (λ w h. let b = and_both (nat_lt w.var.0 max_vars) (nat_lt w.trans.0 max_transitions) h in (ltb-true w.var.0 max_vars b.0, ltb-true w.trans.0 max_transitions b.1)) (merged (flat_map (λ p. filter_map (write_of snap.seen p.id.0) p.actions) (own_fired (part_of chart u) snap))) (writes_fit chart u ok snap);
        writes_ascend = ascend (λ w. w.var.0) (merged (flat_map (λ p. filter_map (write_of snap.seen p.id.0) p.actions) (own_fired (part_of chart u) snap))) asc.writes;
        raised = all_by (λ (e : EventId). nat_lt e.0 max_events) (λ e. e.0 < max_events) (λ e h. ltb-true e.0 max_events h) (map event_id (raised_numbers chart u ok snap)) (raised_fit chart u ok snap);
        raised_ascend = ascend (λ e. e.0) (map event_id (raised_numbers chart u ok snap)) asc.raised;
        starts = all_by is_start IsStart (λ s h. let a = and_both (nat_lt s.act.0 max_acts) (nat_lt s.trans.0 max_transitions && nat_lt s.place max_actions) h in let b = and_both (nat_lt s.trans.0 max_transitions) (nat_lt s.place max_actions) a.1 in (ltb-true s.act.0 max_acts a.0, ltb-true s.trans.0 max_transitions b.0, ltb-true s.place max_actions b.1))
            (flat_map (λ p. starts_from p.id.0 0 p.actions) (own_fired (part_of chart u) snap)) (starts_in chart u ok snap);
        starts_ascend = starts_in_order (flat_map (λ p. starts_from p.id.0 0 p.actions) (own_fired (part_of chart u) snap)) (own_starts_ascend chart u k view outers);
        starts_few = own_starts_few chart u ok snap;
        fired = all_by (λ (i : TransId). nat_lt i.0 max_transitions) (λ i. i.0 < max_transitions) (λ i h. ltb-true i.0 max_transitions h) (map (λ p. p.id) (own_fired (part_of chart u) snap)) (fired_fit chart u ok snap);
        fired_ascend = ascend (λ t. t.0) (map (λ p. p.id) (own_fired (part_of chart u) snap)) asc.fired;
        fired_few = fired_few chart u ok snap;
        outer = outers_fit chart u ok outers at items;
        outer_few = short;
      },
      flips_few chart u ok snap,
    )
