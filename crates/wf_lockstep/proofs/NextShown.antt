-- A view that shows a central state, and takes in the units' shares of a step, shows the next state.
use Rattle.std.proofs.Common.{◌≡◌, ℕ, suc, ◌+◌, ◌<◌, ◌==◌, ◌&&◌, nat_lt, cond, Bool, true, false, List, [], ◌∷◌, ◌++◌, length, map, filter, flat_map, Option, Some, get_or, refl, sym, ap, ap₂, ◌∙◌, arith, eqb-true, eq-eqb, ltb-true, true≢false, length-append}
use Rattle.std.specs.Option.{option_map_or}
use Rattle.std.specs.List.{list_any, range_with_len}
use Rattle.std.proofs.lemmas.List.Elements.{filter-append}
use Rattle.std.proofs.lemmas.List.Folds.{flat_map-map}
use Rattle.std.proofs.lemmas.Map.Views.{any-filter_same}
use Rattle.wf_model.specs.declared.ids.StateId.{StateId}
use Rattle.wf_model.specs.declared.ids.EventId.{EventId}
use Rattle.wf_model.specs.declared.ids.ActId.{ActId}
use Rattle.wf_model.specs.declared.value.Val.{Val}
use Rattle.wf_model.specs.declared.chart.Chart.{Chart}
use Rattle.wf_model.specs.declared.outer.Output.{Output}
use Rattle.wf_model.specs.declared.outer.Entry.{Entry}
use Rattle.wf_parts.specs.declared.data.KnownState.{KnownState}
use Rattle.wf_parts.specs.declared.data.KnownEvent.{KnownEvent}
use Rattle.wf_model.specs.declared.update.Write.{Write}
use Rattle.wf_model.specs.declared.update.StartAt.{StartAt}
use Rattle.wf_model.specs.declared.update.Update.{Update}
use Rattle.wf_model.specs.Tree.{all_states}
use Rattle.wf_model.specs.Accepted.{IsAccepted}
use Rattle.wf_semantics.specs.Configuration.{is_in, IsConfiguration}
use Rattle.wf_semantics.specs.Snapshot.{Snapshot}
use Rattle.wf_semantics.specs.Effects.{actions_of, raises, raised_by, starts_from, starts_of, after_entries, after_fired}
use Rattle.wf_semantics.specs.Items.{new_item, open_count, one, close_all}
use Rattle.wf_semantics.specs.Run.{CentralState, act_unit, is_at, new_items, completions_at, snapshot_of, fired_in, next_state}
use Rattle.wf_semantics.specs.Admission.{may_come}
use Rattle.wf_model.proofs.Bools.{Mem, any_map, any_agree, and_both}
use Rattle.wf_activities.proofs.Counting.{count_append}
use Rattle.wf_actions.specs.Writes.{winner, merged}
use Rattle.wf_actions.specs.Store.{writes_of}
use Rattle.wf_parts.specs.Known.{is_state_of, knows_state, knows_var, knows_event, knows_act}
use Rattle.wf_parts.specs.Parts.{part_of}
use Rattle.wf_views.specs.Knowledge.{known_to, cut_entries}
use Rattle.wf_views.specs.Views.{is_inside, value_now, count_now}
use Rattle.wf_views.specs.OwnSteps.{differs}
use Rattle.wf_views.specs.Absorbing.{absorbed, is_flipped, is_raised, writes_in, starts_in, entries_of, entries_in, value_after, start_count}
use Rattle.wf_views.proofs.Lists.{map_map, map_agree, filter_known}
use Rattle.wf_views.proofs.Listing.{part_states, part_events}
use Rattle.wf_lockstep.specs.Shares.{entries_to, outers_to, by_units, fired_of_unit, moved_of_unit, share_from}
use Rattle.wf_lockstep.specs.Shown.{shown}
use Rattle.wf_lockstep.proofs.Numbered.{numbers_mem, flat_agree}
use Rattle.wf_lockstep.proofs.Cuts.{any_one, any_cut, total, total_agree, total_cut}
use Rattle.wf_lockstep.proofs.Outputs.{entries_length}
use Rattle.wf_lockstep.proofs.Sight.{var_at, act_at, var_numbers, act_numbers, value_at, count_at, vars_of_view, acts_of_view, inside_known, value_now_at, count_now_at, act_unit_at}
use Rattle.wf_lockstep.proofs.Writing.{winner_cut, fired_read}
use Rattle.wf_lockstep.proofs.Owners.{among_all, unit_at, owner, unit_below, state_of_unit, owner_below, own_by_owner, fired_ascends}
use Rattle.wf_model.specs.Ids.{state_id}

differs_twice : (a b : Bool) → differs a (differs a b) ≡ b
differs_twice true true = refl
differs_twice true false = refl
differs_twice false b = refl

and_swap : (a b : Bool) → (a && b) ≡ (b && a)
and_swap true true = refl
and_swap true false = refl
and_swap false true = refl
and_swap false false = refl

-- STARTS OF ONE ACTIVITY

starts_both : (a : ℕ) (xs ys : List StartAt) → start_count a (xs ++ ys) ≡ start_count a xs + start_count a ys
starts_both a xs ys = ap length (filter-append (λ s. s.act.0 == a) xs ys) ∙ length-append (filter (λ s. s.act.0 == a) xs) (filter (λ s. s.act.0 == a) ys)

starts_total : (a : ℕ) (f : ℕ → List StartAt) (ts : List ℕ) → start_count a (flat_map f ts) ≡ total (λ t. start_count a (f t)) ts
starts_total a f [] = refl
starts_total a f (t ∷ ts) = starts_both a (f t) (flat_map f ts) ∙ ap (λ (n : ℕ). start_count a (f t) + n) (starts_total a f ts)

module _ (chart : Chart) (ok : IsAccepted chart) (c : CentralState) (es : List Entry) (conf : IsConfiguration chart c.configuration)
    (stored : length c.store ≡ length chart.vars) (come : may_come chart c.items es ≡ true) (k : ℕ) (next : List Entry) where
  abbrev us : List ℕ
  us = range_with_len 0 (length chart.units)

  abbrev snap : Snapshot
  snap = snapshot_of chart c es

  abbrev fired : List ℕ
  fired = fired_in chart c es

  abbrev pub share : ℕ → Update
  share v = share_from chart c es v k (outers_to v next)

  abbrev after : CentralState
  after = next_state chart c es

  own_fired_by : (v : ℕ) → fired_of_unit chart c es v ≡ filter (λ t. owner chart ok t == v) fired
  own_fired_by v = own_by_owner chart ok v fired

  below : (x : ℕ) → Mem x fired → owner chart ok x < length chart.units
  below x m = owner_below chart ok x

  -- THE STATES

  share_flips : (v s : ℕ) → s < length chart.states → list_any (λ i. i.0 == s) (share v).flips ≡ ((unit_at chart ok s == v) && differs (is_in s c.configuration) (is_in s after.configuration))
  unfolding share_from
  share_flips v s lt =
      any_map (λ (i : StateId). i.0 == s) state_id (moved_of_unit chart c es v)
      ∙ any-filter_same (λ z. z == s) (λ z. differs (is_in z c.configuration) (is_in z after.configuration)) (differs (is_in s c.configuration) (is_in s after.configuration))
      (λ z e. ap (λ (n : ℕ). differs (is_in n c.configuration) (is_in n after.configuration)) (eqb-true z s e)) (filter (is_state_of chart v) (all_states chart))
      ∙ ap (λ (b : Bool). differs (is_in s c.configuration) (is_in s after.configuration) && b) (among_all (is_state_of chart v) (length chart.states) s lt ∙ state_of_unit chart ok v s lt)
      ∙ and_swap (differs (is_in s c.configuration) (is_in s after.configuration)) (unit_at chart ok s == v)

  flipped : (s : ℕ) → s < length chart.states → is_flipped (map share us) s ≡ differs (is_in s c.configuration) (is_in s after.configuration)
  flipped s lt =
      any_map (λ (up : Update). list_any (λ i. i.0 == s) up.flips) share us
      ∙ any_agree (λ v. list_any (λ i. i.0 == s) (share v).flips) (λ v. (unit_at chart ok s == v) && differs (is_in s c.configuration) (is_in s after.configuration)) us (λ v m. share_flips v s lt)
      ∙ any_one (differs (is_in s c.configuration) (is_in s after.configuration)) (unit_at chart ok s) 0 (length chart.units) (omega arith) (omega (arith, unit_below chart ok s lt))

  -- THE EVENTS

  raised_has : (e : ℕ) (ts : List ℕ) → e < length chart.events → list_any (λ r. r.0 == e) (raised_by chart snap.seen ts) ≡ list_any (raises chart snap.seen e) ts
  raised_has e ts lt =
      any_map (λ (i : EventId). i.0 == e) (λ n. record { 0 = n }) (filter (λ n. list_any (raises chart snap.seen n) ts) (range_with_len 0 (length chart.events)))
      ∙ among_all (λ n. list_any (raises chart snap.seen n) ts) (length chart.events) e lt

  share_raised : (v e : ℕ) → e < length chart.events → list_any (λ r. r.0 == e) (share v).raised ≡ list_any (raises chart snap.seen e) (filter (λ t. owner chart ok t == v) fired)
  unfolding share_from
  share_raised v e lt = raised_has e (fired_of_unit chart c es v) lt ∙ ap (list_any (raises chart snap.seen e)) (own_fired_by v)

  raised : (e : ℕ) → e < length chart.events → is_raised (map share us) e ≡ list_any (λ r. r.0 == e) after.raised
  unfolding next_state
  raised e lt =
      any_map (λ (up : Update). list_any (λ r. r.0 == e) up.raised) share us
      ∙ any_agree (λ v. list_any (λ r. r.0 == e) (share v).raised) (λ v. list_any (raises chart snap.seen e) (filter (λ t. owner chart ok t == v) fired)) us (λ v m. share_raised v e lt)
      ∙ any_cut (raises chart snap.seen e) (owner chart ok) (length chart.units) fired below
      ∙ sym (raised_has e fired lt)

  -- THE VARIABLES

  writes_are : writes_in (map share us) ≡ flat_map (λ v. merged (writes_of chart snap.seen (filter (λ t. owner chart ok t == v) fired))) us
  unfolding share_from
  writes_are =
      flat_map-map (λ (up : Update). up.writes) share us
      ∙ flat_agree (λ v. (share v).writes) (λ v. merged (writes_of chart snap.seen (filter (λ t. owner chart ok t == v) fired))) us (λ v m. ap (λ (ts : List ℕ). merged (writes_of chart snap.seen ts)) (own_fired_by v))

  store_next : (x : ℕ) (d : Val) → get_or after.store x d ≡ get_or (after_fired chart snap.seen fired (after_entries es c.store)) x d
  unfolding next_state
  store_next x d = refl

  value_next : (x : ℕ) (d : Val) → x < length chart.vars → value_after (writes_in (map share us)) x (get_or (after_entries es c.store) x d) ≡ get_or after.store x d
  value_next x d lt =
      ap (λ (o : Option Write). option_map_or (λ write. write.val) o (get_or (after_entries es c.store) x d)) (ap (winner x) writes_are ∙ winner_cut chart snap (owner chart ok) (length chart.units) fired (owner_below chart ok) x)
      ∙ sym (fired_read chart snap fired (after_entries es c.store) x d (fired_ascends chart ok c es conf) (omega (arith, lt, stored, entries_length es c.store)))
      ∙ sym (store_next x d)

  -- THE COUNTS

  starts_are : starts_in (map share us) ≡ flat_map (λ v. starts_of chart (filter (λ t. owner chart ok t == v) fired)) us
  unfolding share_from
  starts_are =
      flat_map-map (λ (up : Update). up.starts) share us
      ∙ flat_agree (λ v. (share v).starts) (λ v. starts_of chart (filter (λ t. owner chart ok t == v) fired)) us (λ v m. ap (starts_of chart) (own_fired_by v))

  starts_same : (a : ℕ) → start_count a (starts_in (map share us)) ≡ start_count a (starts_of chart fired)
  starts_same a =
      ap (start_count a) starts_are
      ∙ starts_total a (λ v. starts_of chart (filter (λ t. owner chart ok t == v) fired)) us
      ∙ total_agree (λ v. start_count a (starts_of chart (filter (λ t. owner chart ok t == v) fired))) (λ v. total (λ t. start_count a (starts_from t 0 (actions_of chart t))) (filter (λ t. owner chart ok t == v) fired)) us
      (λ v m. starts_total a (λ t. starts_from t 0 (actions_of chart t)) (filter (λ t. owner chart ok t == v) fired))
      ∙ total_cut (λ t. start_count a (starts_from t 0 (actions_of chart t))) (owner chart ok) (length chart.units) fired below
      ∙ sym (starts_total a (λ t. starts_from t 0 (actions_of chart t)) fired)

  new_open : (a w : ℕ) → act_unit chart a ≡ Some w → (ss : List StartAt) → open_count a (new_items chart w ss) ≡ start_count a ss
  new_open a w e [] = refl
  new_open a w e (s ∷ ss) = go (is_at chart w s) refl (s.act.0 == a) refl (new_open a w e ss)
    where
      go : (p : Bool) → is_at chart w s ≡ p → (q : Bool) → (s.act.0 == a) ≡ q → open_count a (new_items chart w ss) ≡ start_count a ss →
          open_count a (map (λ s. new_item s.act) (cond p (s ∷ filter (is_at chart w) ss) (filter (is_at chart w) ss))) ≡ length (cond q (s ∷ filter (λ s. s.act.0 == a) ss) (filter (λ s. s.act.0 == a) ss))
      go true f true g ih = ap (λ (b : Bool). one (b && true) + open_count a (new_items chart w ss)) g ∙ (let more : 1 + open_count a (new_items chart w ss) ≡ suc (start_count a ss) = omega (arith, ih) in more)
      go true f false g ih = ap (λ (b : Bool). one (b && true) + open_count a (new_items chart w ss)) g ∙ (let same : 0 + open_count a (new_items chart w ss) ≡ start_count a ss = omega (arith, ih) in same)
      go false f false g ih = ih
      go false f true g ih = absurd (true≢false (sym (ap (λ (o : Option ℕ). option_map_or (λ v. v == w) o false) (ap (act_unit chart) (eqb-true s.act.0 a g) ∙ e) ∙ eq-eqb w w refl) ∙ f))

  count_next : (a w : ℕ) → act_unit chart a ≡ Some w → open_count a (close_all (completions_at w es) (c.items w)) + start_count a (starts_in (map share us)) ≡ open_count a (after.items w)
  unfolding next_state
  count_next a w e =
      ap (λ (n : ℕ). open_count a (close_all (completions_at w es) (c.items w)) + n) (starts_same a ∙ sym (new_open a w e (starts_of chart fired)))
      ∙ sym (count_append a (close_all (completions_at w es) (c.items w)) (new_items chart w (starts_of chart fired)))

  -- THE ENTRIES

  entries_back : (v : ℕ) (xs : List Entry) → map (λ outer. record { unit = record { 0 = v }; outer = outer }) (map (λ x. x.outer) (filter (λ x. x.unit.0 == v) xs)) ≡ filter (λ x. x.unit.0 == v) xs
  entries_back v [] = refl
  entries_back v (x ∷ xs) = go (x.unit.0 == v) refl (entries_back v xs)
    where
      go : (b : Bool) → (x.unit.0 == v) ≡ b → map (λ outer. record { unit = record { 0 = v }; outer = outer }) (map (λ (x : Entry). x.outer) (filter (λ x. x.unit.0 == v) xs)) ≡ filter (λ x. x.unit.0 == v) xs →
          map (λ outer. record { unit = record { 0 = v }; outer = outer }) (map (λ (x : Entry). x.outer) (cond b (x ∷ filter (λ x. x.unit.0 == v) xs) (filter (λ x. x.unit.0 == v) xs))) ≡ cond b (x ∷ filter (λ x. x.unit.0 == v) xs) (filter (λ x. x.unit.0 == v) xs)
      go true e ih = ap₂ (λ (n : ℕ) (l : List Entry). record { unit = record { 0 = n }; outer = x.outer } ∷ l) (sym (eqb-true x.unit.0 v e)) ih
      go false e ih = ih

  share_entries : (v : ℕ) → entries_of (share v) ≡ entries_to v next
  unfolding share_from
  share_entries v = entries_back v next

  entries_same : entries_in (map share us) ≡ by_units (length chart.units) next
  entries_same = flat_map-map entries_of share us ∙ flat_agree (λ v. entries_of (share v)) (λ v. entries_to v next) us (λ v m. share_entries v)

  -- ALL TOGETHER

  module _ (u : ℕ) (ordered : by_units (length chart.units) next ≡ next) where
    known_state_in : (s : ℕ) → (known_to (part_of chart u)).states s ≡ true → s < length chart.states
    known_state_in s h = ltb-true s (length chart.states) (and_both (nat_lt s (length chart.states)) (knows_state chart u s) (sym (part_states chart u s) ∙ h)).0

    known_event_in : (e : ℕ) → (known_to (part_of chart u)).events e ≡ true → e < length chart.events
    known_event_in e h = ltb-true e (length chart.events) (and_both (nat_lt e (length chart.events)) (knows_event chart u e) (sym (part_events chart u e) ∙ h)).0

    new_states : (absorbed (part_of chart u) (shown (part_of chart u) c es) (map share us)).states ≡ (shown (part_of chart u) after next).states
    unfolding absorbed shown
    new_states = ap (map (λ (known : KnownState). known.id))
        (filter_known (λ known. known.id.0) (known_to (part_of chart u)).states
        (λ known. differs (is_inside (shown (part_of chart u) c es) known.id.0) (is_flipped (map share us) known.id.0)) (λ known. is_in known.id.0 after.configuration)
        (λ known h. ap₂ differs (inside_known chart u c es known.id.0 h) (flipped known.id.0 (known_state_in known.id.0 h)) ∙ differs_twice (is_in known.id.0 c.configuration) (is_in known.id.0 after.configuration))
        (part_of chart u).states (λ n e. e))

    new_raised : (absorbed (part_of chart u) (shown (part_of chart u) c es) (map share us)).raised ≡ (shown (part_of chart u) after next).raised
    unfolding absorbed shown
    new_raised = ap (map (λ (known : KnownEvent). known.id))
        (filter_known (λ known. known.id.0) (known_to (part_of chart u)).events
        (λ known. is_raised (map share us) known.id.0) (λ known. list_any (λ r. r.0 == known.id.0) after.raised)
        (λ known h. raised known.id.0 (known_event_in known.id.0 h))
        (part_of chart u).events (λ n e. e))

    abbrev var_next : Output → Output
    var_next o = record { var = o.var; val = value_after (writes_in (map share us)) o.var.0 (value_now (shown (part_of chart u) c es) o) }

    new_vars : (absorbed (part_of chart u) (shown (part_of chart u) c es) (map share us)).vars ≡ (shown (part_of chart u) after next).vars
    unfolding absorbed
    new_vars =
        ap (map var_next) (vars_of_view chart u c es)
        ∙ map_map var_next (value_at chart u c es) (var_numbers chart u)
        ∙ map_agree (λ x. var_next (value_at chart u c es x)) (value_at chart u after next) (var_numbers chart u) (λ x m.
        let r = numbers_mem (knows_var chart u) (length chart.vars) x m in
        ap (λ (val : Val). record { var = record { 0 = x }; val = val })
        (ap (value_after (writes_in (map share us)) x) (value_now_at chart u c es x r.0 r.1 stored) ∙ value_next x (var_at chart u x).first r.0))
        ∙ sym (vars_of_view chart u after next)

    abbrev count_after : ActId × ℕ → ActId × ℕ
    count_after a = (a.0, count_now (shown (part_of chart u) c es) a + start_count a.0.0 (starts_in (map share us)))

    new_unclosed : (absorbed (part_of chart u) (shown (part_of chart u) c es) (map share us)).unclosed ≡ (shown (part_of chart u) after next).unclosed
    unfolding absorbed
    new_unclosed =
        ap (map count_after) (acts_of_view chart u c es)
        ∙ map_map count_after (count_at chart u c es) (act_numbers chart u)
        ∙ map_agree (λ a. count_after (count_at chart u c es a)) (count_at chart u after next) (act_numbers chart u) (λ a m.
        let r = numbers_mem (knows_act chart u) (length chart.acts) a m in
        ap (λ (n : ℕ). (record { 0 = a }, n))
        (ap (λ (n : ℕ). n + start_count a (starts_in (map share us))) (count_now_at chart u c es a r.0 r.1 come) ∙ count_next a (act_at chart u a).unit.0 (act_unit_at chart u a r.0)))
        ∙ sym (acts_of_view chart u after next)

    new_next : (absorbed (part_of chart u) (shown (part_of chart u) c es) (map share us)).next ≡ (shown (part_of chart u) after next).next
    unfolding absorbed shown
    new_next = ap (cut_entries (known_to (part_of chart u))) (entries_same ∙ ordered)

    pub next_is_shown : absorbed (part_of chart u) (shown (part_of chart u) c es) (map share us) ≡ shown (part_of chart u) after next
    next_is_shown = λ i. record { states = new_states i; vars = new_vars i; raised = new_raised i; unclosed = new_unclosed i; next = new_next i }
