-- A unit's updates hold only what they may.
use Rattle.std.proofs.Common.{◌≡◌, ℕ, ◌+◌, ◌<◌, ◌==◌, ◌&&◌, nat_lt, cond, Bool, true, false, List, [], ◌∷◌, length, map, filter, filter_map, flat_map, fold, Option, Some, None, Result, Ok, Err, slice_get, inl, inr, refl, sym, ap, ap₂, ◌∙◌, arith, eqb-true, eq-eqb, true≢false}
use Rattle.std.specs.Prelude.{option_map}
use Rattle.std.specs.Option.{option_map_or}
use Rattle.std.specs.Result.{result_ok}
use Rattle.std.specs.List.{list_any, list_all, range_with_len, cons_option}
use Rattle.std.proofs.lemmas.List.Folds.{list_all-map, list_all-append}
use Rattle.std.proofs.lemmas.Option.{slice_get_within}
use Rattle.wf_model.specs.declared.ids.StateId.{StateId}
use Rattle.wf_model.specs.declared.ids.VarId.{VarId}
use Rattle.wf_model.specs.declared.ids.EventId.{EventId}
use Rattle.wf_model.specs.declared.expr.Fault.{Fault}
use Rattle.wf_model.specs.declared.value.Val.{Val}
use Rattle.wf_model.specs.declared.chart.Action.{Action}
use Rattle.wf_model.specs.declared.chart.Action.TheVariants.{Assign, Raise, Start}
use Rattle.wf_model.specs.declared.chart.Activity.{Activity}
use Rattle.wf_model.specs.declared.chart.Chart.{Chart}
use Rattle.wf_model.specs.declared.chart.Transition.{Transition}
use Rattle.wf_model.specs.declared.outer.Output.{Output}
use Rattle.wf_model.specs.declared.outer.Outer.{Outer}
use Rattle.wf_model.specs.declared.outer.Outer.TheVariants.{Happen, Complete}
use Rattle.wf_parts.specs.declared.data.Component.{Component}
use Rattle.wf_parts.specs.declared.data.PartTransition.{PartTransition}
use Rattle.wf_model.specs.declared.update.Write.{Write}
use Rattle.wf_model.specs.declared.update.StartAt.{StartAt}
use Rattle.wf_model.specs.Seen.{val_sort}
use Rattle.wf_model.specs.Sorts.{var_sort, alike}
use Rattle.wf_model.specs.Tree.{all_states, all_transitions, all_acts}
use Rattle.wf_model.specs.Values.{value_of}
use Rattle.wf_semantics.specs.Snapshot.{Snapshot}
use Rattle.wf_semantics.specs.Effects.{actions_of, action_raises, is_fault, starts_from}
use Rattle.wf_semantics.specs.Admission.{is_event_at, is_act_at, are_values, are_outputs_of}
use Rattle.wf_model.proofs.Bools.{Mem, or_cases, or_left, or_right, and_both, and_true, mem_any, any_mem, any_map}
use Rattle.wf_semantics.proofs.Lists.{mem_range, filter_mem}
use Rattle.wf_semantics.proofs.Steps.{mem_transition, transition_mem}
use Rattle.wf_semantics.proofs.Children.{item_at}
use Rattle.wf_actions.specs.Writes.{of_variable, over, winner, past_variables, merged}
use Rattle.wf_actions.specs.Store.{write_of}
use Rattle.wf_parts.specs.Components.{component_of}
use Rattle.wf_parts.specs.Reads.{action_assigns, assigns, may_raise, may_start}
use Rattle.wf_parts.specs.Known.{is_state_of, concerns, is_own, is_such, has_output}
use Rattle.wf_parts.specs.Parts.{part_of}
use Rattle.wf_views.specs.Views.{View, sees}
use Rattle.wf_views.specs.OwnSteps.{own_fired, is_fired_in, is_raised_by, flips_in, part_step, own_update}
use Rattle.wf_views.specs.Relevant.{is_outer_within, is_within}
use Rattle.wf_lockstep.specs.Within.{is_at_unit}
use Rattle.wf_lockstep.proofs.Numbered.{filter_map_swap}
use Rattle.wf_lockstep.proofs.Firing.{trans_at, trans_of_part, own_actions}
use Rattle.wf_model.specs.Ids.{event_id}
use Rattle.wf_parts.specs.Peers.{has_own, held_by}

pub all_filter : {A : Type 0} (p q : A → Bool) (xs : List A) → list_all p xs ≡ true → list_all p (filter q xs) ≡ true
all_filter p q [] h = refl
all_filter {A} p q (x ∷ xs) h = let both = and_both (p x) (list_all p xs) h in go (q x) (all_filter p q xs both.1) both.0
  where
    go : (b : Bool) → list_all p (filter q xs) ≡ true → p x ≡ true → list_all p (cond b (x ∷ filter q xs) (filter q xs)) ≡ true
    go true ih e = and_true (p x) (list_all p (filter q xs)) e ih
    go false ih e = ih

-- what passes by its being in the list
pub all_filtered : (p q : ℕ → Bool) (xs : List ℕ) → ((x : ℕ) → q x ≡ true → p x ≡ true) → list_all p (filter q xs) ≡ true
all_filtered p q [] h = refl
all_filtered p q (x ∷ xs) h = go (q x) refl (all_filtered p q xs h)
  where
    go : (b : Bool) → q x ≡ b → list_all p (filter q xs) ≡ true → list_all p (cond b (x ∷ filter q xs) (filter q xs)) ≡ true
    go true e ih = and_true (p x) (list_all p (filter q xs)) (h x e) ih
    go false e ih = ih

pub all_flat : {A : Type 0} (p : A → Bool) (f : ℕ → List A) (ts : List ℕ) → ((t : ℕ) → Mem t ts → list_all p (f t) ≡ true) → list_all p (flat_map f ts) ≡ true
all_flat p f [] h = refl
all_flat p f (t ∷ ts) h = list_all-append p (f t) (flat_map f ts) ∙ and_true (list_all p (f t)) (list_all p (flat_map f ts)) (h t (inl refl)) (all_flat p f ts (λ s m. h s (inr m)))

-- MERGED WRITES ARE AMONG THE WRITES

abbrev pub passes : (Write → Bool) → Option Write → Bool
passes p o = option_map_or p o true

over_passes : (p : Write → Bool) (o : Option Write) (w : Write) → passes p o ≡ true → p w ≡ true → passes p (over o w) ≡ true
over_passes p None w h k = k
over_passes p (Some u) w h k = go (nat_lt w.trans.0 u.trans.0)
  where
    go : (b : Bool) → passes p (cond b (Some u) (Some w)) ≡ true
    go true = h
    go false = k

pub fold_passes : (p : Write → Bool) (ws : List Write) (o : Option Write) → passes p o ≡ true → list_all p ws ≡ true → passes p (fold over o ws) ≡ true
fold_passes p [] o h all = h
fold_passes p (w ∷ ws) o h all = let both = and_both (p w) (list_all p ws) all in fold_passes p ws (over o w) (over_passes p o w h both.0) both.1

pub merged_pass : (p : Write → Bool) (ws : List Write) → list_all p ws ≡ true → list_all p (merged ws) ≡ true
merged_pass p ws all = go (range_with_len 0 (past_variables ws))
  where
    add : (o : Option Write) (rest : List Write) → passes p o ≡ true → list_all p rest ≡ true → list_all p (cons_option o rest) ≡ true
    add None rest h k = k
    add (Some w) rest h k = and_true (p w) (list_all p rest) h k

    go : (xs : List ℕ) → list_all p (filter_map (λ x. winner x ws) xs) ≡ true
    go [] = refl
    go (x ∷ xs) = add (winner x ws) (filter_map (λ x. winner x ws) xs) (fold_passes p (of_variable x ws) None refl (all_filter p (λ write. write.var.0 == x) ws all)) (go xs)

-- WHAT ACTIONS MAY DO

module _ (snap : Snapshot) (t : ℕ) where
  writes_pass : (may : ℕ → Bool) (xs : List Action) → ((x : ℕ) → list_any (action_assigns x) xs ≡ true → may x ≡ true) → list_all (λ (w : Write). may w.var.0) (filter_map (write_of snap.seen t) xs) ≡ true
  writes_pass may [] h = refl
  writes_pass may (Raise e ∷ xs) h = writes_pass may xs h
  writes_pass may (Start a ∷ xs) h = writes_pass may xs h
  writes_pass may (Assign y value ∷ xs) h = go (value_of snap.seen value) (writes_pass may xs (λ x k. h x (or_right (y.0 == x) (list_any (action_assigns x) xs) k)))
    where
      go : (r : Result Val Fault) → list_all (λ (w : Write). may w.var.0) (filter_map (write_of snap.seen t) xs) ≡ true →
          list_all (λ (w : Write). may w.var.0) (cons_option (option_map (λ val. record { var = y; trans = record { 0 = t }; val = val }) (result_ok r)) (filter_map (write_of snap.seen t) xs)) ≡ true
      go (Ok val) ih = and_true (may y.0) (list_all (λ (w : Write). may w.var.0) (filter_map (write_of snap.seen t) xs)) (h y.0 (or_left (y.0 == y.0) (list_any (action_assigns y.0) xs) (eq-eqb y.0 y.0 refl))) ih
      go (Err d) ih = ih

starts_pass : (may : ℕ → Bool) (t place : ℕ) (xs : List Action) → ((a : ℕ) → list_any (may_start a) xs ≡ true → may a ≡ true) → list_all (λ (s : StartAt). may s.act.0) (starts_from t place xs) ≡ true
starts_pass may t place [] h = refl
starts_pass may t place (Assign x value ∷ xs) h = starts_pass may t (place + 1) xs h
starts_pass may t place (Raise e ∷ xs) h = starts_pass may t (place + 1) xs h
starts_pass may t place (Start a ∷ xs) h =
    and_true (may a.0) (list_all (λ (s : StartAt). may s.act.0) (starts_from t (place + 1) xs))
    (h a.0 (or_left (a.0 == a.0) (list_any (may_start a.0) xs) (eq-eqb a.0 a.0 refl)))
    (starts_pass may t (place + 1) xs (λ n k. h n (or_right (a.0 == n) (list_any (may_start n) xs) k)))

raises_may : (snap : Snapshot) (e : ℕ) (xs : List Action) → list_any (action_raises snap.seen e) xs ≡ true → list_any (may_raise e) xs ≡ true
raises_may snap e [] h = h
raises_may snap e (x ∷ xs) h = elim (or_cases (action_raises snap.seen e x) (list_any (action_raises snap.seen e) xs) h) [
  | inl k ↦ or_left (may_raise e x) (list_any (may_raise e) xs) (one x k)
  | inr k ↦ or_right (may_raise e x) (list_any (may_raise e) xs) (raises_may snap e xs k)
]
  where
    one : (x : Action) → action_raises snap.seen e x ≡ true → may_raise e x ≡ true
    one (Assign y value) k = (and_both (e == 0) (is_fault (value_of snap.seen value)) k).0
    one (Raise f) k = k
    one (Start a) k = absurd (true≢false (sym k))

-- THE UPDATE

module _ (chart : Chart) (u : ℕ) (snap : Snapshot) where
  abbrev pub mine : List ℕ
  mine = filter (λ t. (trans_at chart u t).own && is_fired_in (part_of chart u) snap (trans_at chart u t)) (filter (concerns chart u) (all_transitions chart))

  pub own_fired_at : own_fired (part_of chart u) snap ≡ map (trans_at chart u) mine
  own_fired_at =
      ap (filter (λ p. p.own && is_fired_in (part_of chart u) snap p)) (trans_of_part chart u)
      ∙ filter_map_swap (trans_at chart u) (λ p. p.own && is_fired_in (part_of chart u) snap p) (filter (concerns chart u) (all_transitions chart))

  is_owned : (t : ℕ) → (trans_at chart u t).own ≡ true → is_own chart u t ≡ true
  is_owned t h = go (slice_get chart.transitions t) h
    where
      go : (o : Option Transition) → (Rattle.std.specs.Prelude.unwrap_or (option_map (λ x. Rattle.wf_parts.specs.Parts.part_transition chart u (t, x)) o) (Rattle.wf_lockstep.proofs.Firing.no_transition t)).own ≡ true → is_own chart u t ≡ true
      go None h = absurd (true≢false (sym h))
      go (Some x) h = h

  pub mine_owned : (t : ℕ) → Mem t mine → (t < length chart.transitions) × (is_own chart u t ≡ true)
  mine_owned t m =
      let f = filter_mem (λ t. (trans_at chart u t).own && is_fired_in (part_of chart u) snap (trans_at chart u t)) (filter (concerns chart u) (all_transitions chart)) t m in
      (transition_mem chart t (filter_mem (concerns chart u) (all_transitions chart) t f.0).0, is_owned t (and_both (trans_at chart u t).own (is_fired_in (part_of chart u) snap (trans_at chart u t)) f.1).0)

  -- what an own transition does, some own transition does
  done_by_own : (test : Action → Bool) (t : ℕ) → t < length chart.transitions → is_own chart u t ≡ true → list_any test (actions_of chart t) ≡ true → has_own chart u (λ trans. list_any test trans.actions) ≡ true
  done_by_own test t lt own h =
      let w = item_at chart.transitions t lt in
      mem_any (λ t. is_own chart u t && is_such (λ trans. list_any test trans.actions) chart t) t (all_transitions chart) (mem_transition chart t lt)
      (and_true (is_own chart u t) (is_such (λ trans. list_any test trans.actions) chart t) own
      (ap (λ (o : Option Transition). option_map_or (λ trans. list_any test trans.actions) o false) w.1
      ∙ ap (λ (o : Option Transition). list_any test (Rattle.std.specs.Prelude.unwrap_or (option_map (λ trans. trans.actions) o) [])) (sym w.1) ∙ h))

  writes_within : list_all (λ (w : Write). (held_by chart u).vars w.var.0) (merged (flat_map (λ p. filter_map (write_of snap.seen p.id.0) p.actions) (own_fired (part_of chart u) snap))) ≡ true
  writes_within =
      merged_pass (λ w. (held_by chart u).vars w.var.0) (flat_map (λ p. filter_map (write_of snap.seen p.id.0) p.actions) (own_fired (part_of chart u) snap))
      (ap (list_all (λ (w : Write). (held_by chart u).vars w.var.0)) (ap (flat_map (λ (p : PartTransition). filter_map (write_of snap.seen p.id.0) p.actions)) own_fired_at
      ∙ Rattle.std.proofs.lemmas.List.Folds.flat_map-map (λ (p : PartTransition). filter_map (write_of snap.seen p.id.0) p.actions) (trans_at chart u) mine)
      ∙ all_flat (λ (w : Write). (held_by chart u).vars w.var.0) (λ t. filter_map (write_of snap.seen (trans_at chart u t).id.0) (trans_at chart u t).actions) mine (λ t m.
      let o = mine_owned t m in
      writes_pass snap (trans_at chart u t).id.0 (held_by chart u).vars (trans_at chart u t).actions (λ x k.
      or_left (has_own chart u (assigns x)) (list_any (λ a. is_act_at chart u a && has_output chart x a) (all_acts chart))
      (done_by_own (action_assigns x) t o.0 o.1 (ap (list_any (action_assigns x)) (sym (own_actions chart u t o.1)) ∙ k)))))

  starts_within : list_all (λ (s : StartAt). (held_by chart u).acts s.act.0) (flat_map (λ p. starts_from p.id.0 0 p.actions) (own_fired (part_of chart u) snap)) ≡ true
  starts_within =
      ap (list_all (λ (s : StartAt). (held_by chart u).acts s.act.0)) (ap (flat_map (λ (p : PartTransition). starts_from p.id.0 0 p.actions)) own_fired_at
      ∙ Rattle.std.proofs.lemmas.List.Folds.flat_map-map (λ (p : PartTransition). starts_from p.id.0 0 p.actions) (trans_at chart u) mine)
      ∙ all_flat (λ (s : StartAt). (held_by chart u).acts s.act.0) (λ t. starts_from (trans_at chart u t).id.0 0 (trans_at chart u t).actions) mine (λ t m.
      let o = mine_owned t m in
      starts_pass (held_by chart u).acts (trans_at chart u t).id.0 0 (trans_at chart u t).actions (λ a k.
      or_right (is_act_at chart u a) (has_own chart u (λ trans. list_any (may_start a) trans.actions))
      (done_by_own (may_start a) t o.0 o.1 (ap (list_any (may_start a)) (sym (own_actions chart u t o.1)) ∙ k))))

  raised_may : (e : ℕ) → is_raised_by snap (own_fired (part_of chart u) snap) e ≡ true → (held_by chart u).events e ≡ true
  raised_may e h =
      let w = any_mem (λ t. list_any (action_raises snap.seen e) (trans_at chart u t).actions) mine
      (sym (any_map (λ (p : PartTransition). list_any (action_raises snap.seen e) p.actions) (trans_at chart u) mine) ∙ ap (list_any (λ (p : PartTransition). list_any (action_raises snap.seen e) p.actions)) (sym own_fired_at) ∙ h) in
      let o = mine_owned w.0 w.1 in
      or_right (is_event_at chart u e) (has_own chart u (λ trans. list_any (may_raise e) trans.actions))
      (done_by_own (may_raise e) w.0 o.0 o.1 (raises_may snap e (actions_of chart w.0) (ap (list_any (action_raises snap.seen e)) (sym (own_actions chart u w.0 o.1)) ∙ w.2)))

  raised_within : list_all (λ (e : EventId). (held_by chart u).events e.0) (map event_id (filter (is_raised_by snap (own_fired (part_of chart u) snap)) (range_with_len 0 Rattle.wf_model.specs.Limits.max_events))) ≡ true
  raised_within =
      list_all-map (λ (e : EventId). (held_by chart u).events e.0) event_id (filter (is_raised_by snap (own_fired (part_of chart u) snap)) (range_with_len 0 Rattle.wf_model.specs.Limits.max_events))
      ∙ all_filtered (held_by chart u).events (is_raised_by snap (own_fired (part_of chart u) snap)) (range_with_len 0 Rattle.wf_model.specs.Limits.max_events) raised_may

  flips_within : list_all (λ (s : StateId). is_state_of chart u s.0) (map (λ c. c.state) (filter (flips_in (part_of chart u) snap) (part_of chart u).components)) ≡ true
  unfolding part_of
  flips_within =
      list_all-map (λ (s : StateId). is_state_of chart u s.0) (λ (c : Component). c.state) (filter (flips_in (part_of chart u) snap) (map (component_of chart) (filter (is_state_of chart u) (all_states chart))))
      ∙ all_filter (λ (c : Component). is_state_of chart u c.state.0) (flips_in (part_of chart u) snap) (map (component_of chart) (filter (is_state_of chart u) (all_states chart)))
      (list_all-map (λ (c : Component). is_state_of chart u c.state.0) (component_of chart) (filter (is_state_of chart u) (all_states chart))
      ∙ all_filtered (is_state_of chart u) (is_state_of chart u) (all_states chart) (λ x e. e))

-- OUTERS

outputs_listed : (chart : Chart) (xs : List VarId) (os : List Output) → are_values chart xs os ≡ true → (may : ℕ → Bool) → ((x : ℕ) → list_any (λ (v : VarId). v.0 == x) xs ≡ true → may x ≡ true) → list_all (λ (o : Output). may o.var.0) os ≡ true
outputs_listed chart [] [] h may f = refl
outputs_listed chart [] (o ∷ os) h may f = absurd (true≢false (sym h))
outputs_listed chart (x ∷ xs) [] h may f = refl
outputs_listed chart (x ∷ xs) (o ∷ os) h may f =
    let a = and_both (o.var.0 == x.0) (option_map_or (λ sort. alike sort (val_sort o.val)) (var_sort chart x.0) false && are_values chart xs os) h in
    let b = and_both (option_map_or (λ sort. alike sort (val_sort o.val)) (var_sort chart x.0) false) (are_values chart xs os) a.1 in
    and_true (may o.var.0) (list_all (λ (o : Output). may o.var.0) os)
    (f o.var.0 (or_left (x.0 == o.var.0) (list_any (λ (v : VarId). v.0 == o.var.0) xs) (eq-eqb x.0 o.var.0 (sym (eqb-true o.var.0 x.0 a.0)))))
    (outputs_listed chart xs os b.1 may (λ n k. f n (or_right (x.0 == n) (list_any (λ (v : VarId). v.0 == n) xs) k)))

outer_within : (chart : Chart) (u : ℕ) (o : Outer) → is_at_unit chart u o ≡ true → is_outer_within (held_by chart u) o ≡ true
outer_within chart u (Happen e) h = or_left (is_event_at chart u e.0) (has_own chart u (λ trans. list_any (may_raise e.0) trans.actions)) h
outer_within chart u (Complete n a os) h =
    let both = and_both (is_act_at chart u a.0) (are_outputs_of chart a.0 os) h in
    and_true ((held_by chart u).acts a.0) (list_all (λ o. (held_by chart u).vars o.var.0) os)
    (or_left (is_act_at chart u a.0) (has_own chart u (λ trans. list_any (may_start a.0) trans.actions)) both.0)
    (go (slice_get chart.acts a.0) refl both.1)
  where
    go : (o : Option Activity) → slice_get chart.acts a.0 ≡ o → option_map_or (λ act. are_values chart act.outputs os) o false ≡ true → list_all (λ (o : Output). (held_by chart u).vars o.var.0) os ≡ true
    go None e k = absurd (true≢false (sym k))
    go (Some act) e k = outputs_listed chart act.outputs os k (held_by chart u).vars (λ x l.
        or_right (has_own chart u (assigns x)) (list_any (λ a. is_act_at chart u a && has_output chart x a) (all_acts chart))
        (mem_any (λ a. is_act_at chart u a && has_output chart x a) a.0 (all_acts chart) (mem_range 0 (length chart.acts) a.0 (omega arith) (omega (arith, slice_get_within chart.acts a.0 act e)))
        (and_true (is_act_at chart u a.0) (has_output chart x a.0) (and_both (is_act_at chart u a.0) (are_outputs_of chart a.0 os) h).0
        (ap (λ (o : Option Activity). option_map_or (λ act. list_any (λ v. v.0 == x) act.outputs) o false) e ∙ l))))

outers_within : (chart : Chart) (u : ℕ) (os : List Outer) → list_all (is_at_unit chart u) os ≡ true → list_all (is_outer_within (held_by chart u)) os ≡ true
outers_within chart u [] h = refl
outers_within chart u (o ∷ os) h = let both = and_both (is_at_unit chart u o) (list_all (is_at_unit chart u) os) h in
    and_true (is_outer_within (held_by chart u) o) (list_all (is_outer_within (held_by chart u)) os) (outer_within chart u o both.0) (outers_within chart u os both.1)

pub own_within : (chart : Chart) (u k : ℕ) (view : View) (outers : List Outer) → list_all (is_at_unit chart u) outers ≡ true → is_within (held_by chart u) (own_update (part_of chart u) k view outers) ≡ true
unfolding part_step
own_within chart u k view outers h =
    let snap : Snapshot = sees (part_of chart u) view in
    ap₂ (λ (a b : Bool). a && b) (flips_within chart u snap) (ap₂ (λ (a b : Bool). a && b) (writes_within chart u snap) (ap₂ (λ (a b : Bool). a && b) (raised_within chart u snap)
    (ap₂ (λ (a b : Bool). a && b) (starts_within chart u snap) (outers_within chart u outers h))))
