-- What a part sees of the view that shows a central state is what the central step sees, on all that it knows.
use Rattle.std.proofs.Common.{◌≡◌, ℕ, ◌+◌, ◌-◌, ◌<◌, ◌≤◌, ◌==◌, ◌||◌, ◌&&◌, nat_lt, cond, Bool, true, false, List, [], length, map, filter, find, Option, Some, None, unwrap_or, slice_get, get_or, inl, inr, refl, sym, ap, ap₂, ◌∙◌, arith, eqb-true, lt-ltb}
use Rattle.std.specs.Prelude.{option_map}
use Rattle.std.specs.Option.{option_map_or}
use Rattle.std.specs.List.{list_any, range_with_len}
use Rattle.std.proofs.lemmas.Option.{slice_get-get_or, slice_get_past}
use Rattle.std.proofs.lemmas.Map.Views.{any-filter_same}
use Rattle.std.proofs.lemmas.Bool.Decides.{nat_tests}
use Rattle.wf_model.specs.declared.ids.StateId.{StateId}
use Rattle.wf_model.specs.declared.ids.EventId.{EventId}
use Rattle.wf_model.specs.declared.ids.ActId.{ActId}
use Rattle.wf_model.specs.declared.value.Val.TheVariants as v
use Rattle.wf_model.specs.declared.value.Sort.TheVariants as sorts
use Rattle.wf_model.specs.declared.chart.Chart.{Chart}
use Rattle.wf_model.specs.declared.chart.Variable.{Variable}
use Rattle.wf_model.specs.declared.chart.Activity.{Activity}
use Rattle.wf_model.specs.declared.outer.Output.{Output}
use Rattle.wf_model.specs.declared.outer.Entry.{Entry}
use Rattle.wf_parts.specs.declared.data.KnownState.{KnownState}
use Rattle.wf_parts.specs.declared.data.KnownVariable.{KnownVariable}
use Rattle.wf_parts.specs.declared.data.KnownEvent.{KnownEvent}
use Rattle.wf_parts.specs.declared.data.KnownActivity.{KnownActivity}
use Rattle.wf_parts.specs.declared.data.PartData.{PartData}
use Rattle.wf_semantics.specs.Configuration.{is_in, IsConfiguration}
use Rattle.wf_semantics.specs.Snapshot.{Snapshot}
use Rattle.wf_semantics.specs.Effects.{after_entries}
use Rattle.wf_semantics.specs.Items.{open_count, done_count, close_all}
use Rattle.wf_semantics.specs.Run.{CentralState, act_unit, snapshot_of, open_now, done_now, is_there, is_happening, completions_at}
use Rattle.wf_semantics.specs.Admission.{may_come}
use Rattle.wf_model.proofs.Bools.{any_map, not_true}
use Rattle.wf_semantics.proofs.Children.{lt_or_ge, item_at}
use Rattle.wf_semantics.proofs.Facts.{IsChart}
use Rattle.wf_semantics.proofs.Configured.{inside_states}
use Rattle.wf_activities.proofs.Turns.{turn_counts, come_in_turn}
use Rattle.wf_parts.specs.Known.{knows_state, knows_var, knows_event, knows_act}
use Rattle.wf_parts.specs.Parts.{part_of, known_variable, known_activity}
use Rattle.wf_views.specs.Knowledge.{known_to, cut_entries}
use Rattle.wf_views.specs.Views.{View, sees, is_inside, value_now, count_now, completions_in, outputs_in, after_outputs}
use Rattle.wf_views.proofs.Lists.{map_map, map_same}
use Rattle.wf_views.proofs.Listing.{part_states, part_vars, part_events, part_acts}
use Rattle.wf_lockstep.specs.Shown.{shown}
use Rattle.wf_lockstep.proofs.Numbered.{at_number, numbered_at, find_at, find_past}
use Rattle.wf_lockstep.proofs.Outputs.{entries_length, entries_read, outputs_cut, done_cut, happens_cut, done_at_unit}

-- two snapshots are alike on all that unit u knows
pub record Alike (chart : Chart) (u : ℕ) (a b : Snapshot) : Type 0 where
  pub states : (s : ℕ) → knows_state chart u s ≡ true → unwrap_or (a.seen.state s) false ≡ unwrap_or (b.seen.state s) false
  pub vars : (x : ℕ) → knows_var chart u x ≡ true → a.seen.var x ≡ b.seen.var x
  pub counts : (n : ℕ) → knows_act chart u n ≡ true → unwrap_or (a.seen.count n) 0 ≡ unwrap_or (b.seen.count n) 0
  pub dones : (n : ℕ) → knows_act chart u n ≡ true → unwrap_or (a.seen.done n) false ≡ unwrap_or (b.seen.done n) false
  pub there : (e : ℕ) → e < length chart.events → knows_event chart u e ≡ true → a.there e ≡ b.there e

and_yes : (b : Bool) → (b && true) ≡ b
and_yes true = refl
and_yes false = refl

within : (n m : ℕ) → n < m → nat_lt n m ≡ true
within n m lt = lt-ltb n m lt

beyond : (n m : ℕ) → m ≤ n → nat_lt n m ≡ false
beyond n m le = grind (arith, nat_tests)

-- THE LISTS OF A VIEW, by numbers

abbrev pub no_variable : ℕ → KnownVariable
no_variable x = record { id = record { 0 = x }; sort = sorts.Bool; first = v.Bool false }

abbrev pub no_activity : ℕ → KnownActivity
no_activity a = record { id = record { 0 = a }; unit = record { 0 = 0 }; outputs = [] }

module _ (chart : Chart) (u : ℕ) where
  -- variable x as the part has it, and activity a
  abbrev pub var_at : ℕ → KnownVariable
  var_at x = at_number known_variable no_variable chart.vars x

  abbrev pub act_at : ℕ → KnownActivity
  act_at a = at_number (known_activity chart u) no_activity chart.acts a

  abbrev pub var_numbers : List ℕ
  var_numbers = filter (knows_var chart u) (range_with_len 0 (length chart.vars))

  abbrev pub act_numbers : List ℕ
  act_numbers = filter (knows_act chart u) (range_with_len 0 (length chart.acts))

  pub vars_of_part : (part_of chart u).vars ≡ map var_at var_numbers
  unfolding part_of
  vars_of_part = numbered_at known_variable no_variable (knows_var chart u) chart.vars

  pub acts_of_part : (part_of chart u).acts ≡ map act_at act_numbers
  unfolding part_of
  acts_of_part = numbered_at (known_activity chart u) no_activity (knows_act chart u) chart.acts

  pub var_id : (x : ℕ) → (var_at x).id ≡ record { 0 = x }
  var_id x = go (slice_get chart.vars x)
    where
      go : (o : Option Variable) → (unwrap_or (option_map (λ y. known_variable (x, y)) o) (no_variable x)).id ≡ record { 0 = x }
      go None = refl
      go (Some y) = refl

  pub act_id : (a : ℕ) → (act_at a).id ≡ record { 0 = a }
  act_id a = go (slice_get chart.acts a)
    where
      go : (o : Option Activity) → (unwrap_or (option_map (λ y. known_activity chart u (a, y)) o) (no_activity a)).id ≡ record { 0 = a }
      go None = refl
      go (Some y) = refl

  pub act_unit_at : (a : ℕ) → a < length chart.acts → act_unit chart a ≡ Some (act_at a).unit.0
  act_unit_at a lt = let w = item_at chart.acts a lt in
      ap (option_map (λ act. act.unit.0)) w.1 ∙ ap (λ (o : Option Activity). Some (unwrap_or (option_map (λ y. known_activity chart u (a, y)) o) (no_activity a)).unit.0) (sym w.1)

  module _ (c : CentralState) (es : List Entry) where
    abbrev pub value_at : ℕ → Output
    value_at x = record { var = record { 0 = x }; val = get_or c.store x (var_at x).first }

    abbrev pub count_at : ℕ → ActId × ℕ
    count_at a = (record { 0 = a }, open_count a (c.items (act_at a).unit.0))

    pub vars_of_view : (shown (part_of chart u) c es).vars ≡ map value_at var_numbers
    unfolding shown
    vars_of_view =
        ap (map (λ known. record { var = known.id; val = get_or c.store known.id.0 known.first })) vars_of_part
        ∙ map_map (λ known. record { var = known.id; val = get_or c.store known.id.0 known.first }) var_at var_numbers
        ∙ map_same (λ x. record { var = (var_at x).id; val = get_or c.store (var_at x).id.0 (var_at x).first }) value_at
        (λ x. ap (λ (i : Rattle.wf_model.specs.declared.ids.VarId.VarId). record { var = i; val = get_or c.store i.0 (var_at x).first }) (var_id x)) var_numbers

    pub acts_of_view : (shown (part_of chart u) c es).unclosed ≡ map count_at act_numbers
    unfolding shown
    acts_of_view =
        ap (map (λ known. (known.id, open_count known.id.0 (c.items known.unit.0)))) acts_of_part
        ∙ map_map (λ known. (known.id, open_count known.id.0 (c.items known.unit.0))) act_at act_numbers
        ∙ map_same (λ a. ((act_at a).id, open_count (act_at a).id.0 (c.items (act_at a).unit.0))) count_at
        (λ a. ap (λ (i : ActId). (i, open_count i.0 (c.items (act_at a).unit.0))) (act_id a)) act_numbers

    pub next_of_view : (shown (part_of chart u) c es).next ≡ cut_entries (known_to (part_of chart u)) es
    unfolding shown
    next_of_view = refl

    -- a known state of the view
    pub inside_known : (s : ℕ) → (known_to (part_of chart u)).states s ≡ true → is_inside (shown (part_of chart u) c es) s ≡ is_in s c.configuration
    unfolding shown
    inside_known s h =
        any_map (λ (i : StateId). i.0 == s) (λ (known : KnownState). known.id) (filter (λ known. is_in known.id.0 c.configuration) (part_of chart u).states)
        ∙ any-filter_same (λ known. known.id.0 == s) (λ known. is_in known.id.0 c.configuration) (is_in s c.configuration) (λ known e. ap (λ (n : ℕ). is_in n c.configuration) (eqb-true known.id.0 s e)) (part_of chart u).states
        ∙ ap (λ (b : Bool). is_in s c.configuration && b) h ∙ and_yes (is_in s c.configuration)

    -- a known event that was raised
    pub raised_known : (e : ℕ) → (known_to (part_of chart u)).events e ≡ true → list_any (λ r. r.0 == e) (shown (part_of chart u) c es).raised ≡ list_any (λ r. r.0 == e) c.raised
    unfolding shown
    raised_known e h =
        any_map (λ (i : EventId). i.0 == e) (λ (known : KnownEvent). known.id) (filter (λ known. list_any (λ r. r.0 == known.id.0) c.raised) (part_of chart u).events)
        ∙ any-filter_same (λ known. known.id.0 == e) (λ known. list_any (λ r. r.0 == known.id.0) c.raised) (list_any (λ r. r.0 == e) c.raised) (λ known q. ap (λ (n : ℕ). list_any (λ r. r.0 == n) c.raised) (eqb-true known.id.0 e q)) (part_of chart u).events
        ∙ ap (λ (b : Bool). list_any (λ r. r.0 == e) c.raised && b) h ∙ and_yes (list_any (λ r. r.0 == e) c.raised)

    -- a known variable once the entries came, and a known activity
    pub value_now_at : (x : ℕ) → x < length chart.vars → knows_var chart u x ≡ true → length c.store ≡ length chart.vars →
        value_now (shown (part_of chart u) c es) (value_at x) ≡ get_or (after_entries es c.store) x (var_at x).first
    value_now_at x lt kn stored =
        ap (λ (l : List Entry). after_outputs x (outputs_in l) (get_or c.store x (var_at x).first)) next_of_view
        ∙ outputs_cut (known_to (part_of chart u)) x (part_vars chart u x ∙ ap₂ (λ (a b : Bool). a && b) (within x (length chart.vars) lt) kn) es (get_or c.store x (var_at x).first)
        ∙ sym (entries_read es c.store x (var_at x).first (omega (arith, lt, stored)))

    done_now_at : (a : ℕ) → a < length chart.acts → knows_act chart u a ≡ true → may_come chart c.items es ≡ true →
        done_count a (completions_in (shown (part_of chart u) c es).next) ≡ done_count a (completions_at (act_at a).unit.0 es)
    done_now_at a lt kn come =
        ap (λ (l : List Entry). done_count a (completions_in l)) next_of_view
        ∙ done_cut (known_to (part_of chart u)) a (part_acts chart u a ∙ ap₂ (λ (a b : Bool). a && b) (within a (length chart.acts) lt) kn) es
        ∙ done_at_unit chart c es a (act_at a).unit.0 (act_unit_at a lt) come

    pub count_now_at : (a : ℕ) → a < length chart.acts → knows_act chart u a ≡ true → may_come chart c.items es ≡ true →
        count_now (shown (part_of chart u) c es) (count_at a) ≡ open_count a (close_all (completions_at (act_at a).unit.0 es) (c.items (act_at a).unit.0))
    count_now_at a lt kn come =
        let w : ℕ = (act_at a).unit.0 in
        let all : open_count a (close_all (completions_at w es) (c.items w)) + done_count a (completions_at w es) ≡ open_count a (c.items w) = turn_counts a (completions_at w es) (c.items w) (come_in_turn chart c.items es come w) in
        ap (λ (n : ℕ). open_count a (c.items w) - n) (done_now_at a lt kn come)
        ∙ (let less : open_count a (c.items w) - done_count a (completions_at w es) ≡ open_count a (close_all (completions_at w es) (c.items w)) = omega (arith, all) in less)

    module _ (is : IsChart chart) (conf : IsConfiguration chart c.configuration) (stored : length c.store ≡ length chart.vars) (come : may_come chart c.items es ≡ true) where
      part : PartData
      part = part_of chart u

      view : View
      view = shown (part_of chart u) c es

      see_state : (s : ℕ) → knows_state chart u s ≡ true → unwrap_or (cond ((known_to (part_of chart u)).states s) (Some (is_inside (shown (part_of chart u) c es) s)) None) false ≡ is_in s c.configuration
      see_state s kn = elim (lt_or_ge s (length chart.states)) [
        | inl lt ↦
            let k : (known_to (part_of chart u)).states s ≡ true = part_states chart u s ∙ ap₂ (λ (a b : Bool). a && b) (within s (length chart.states) lt) kn in
            ap (λ (b : Bool). unwrap_or (cond b (Some (is_inside (shown (part_of chart u) c es) s)) None) false) k ∙ inside_known s k
        | inr ge ↦
            let k : (known_to (part_of chart u)).states s ≡ false = part_states chart u s ∙ ap (λ (b : Bool). b && knows_state chart u s) (beyond s (length chart.states) ge) in
            ap (λ (b : Bool). unwrap_or (cond b (Some (is_inside (shown (part_of chart u) c es) s)) None) false) k
            ∙ sym (not_true (is_in s c.configuration) (λ h. let l : s < length chart.states = inside_states chart is c.configuration conf s h in omega (arith, l, ge)))
      ]

      see_var : (x : ℕ) → knows_var chart u x ≡ true → option_map (value_now (shown (part_of chart u) c es)) (find (λ o. o.var.0 == x) (shown (part_of chart u) c es).vars) ≡ slice_get (after_entries es c.store) x
      see_var x kn = elim (lt_or_ge x (length chart.vars)) [
        | inl lt ↦
            ap (λ (l : List Output). option_map (value_now (shown (part_of chart u) c es)) (find (λ o. o.var.0 == x) l)) vars_of_view
            ∙ ap (option_map (value_now (shown (part_of chart u) c es))) (find_at value_at (λ o. o.var.0) (λ t. refl) (knows_var chart u) (length chart.vars) x lt kn)
            ∙ ap Some (value_now_at x lt kn stored)
            ∙ sym (slice_get-get_or (after_entries es c.store) x (var_at x).first (omega (arith, lt, stored, entries_length es c.store)))
        | inr ge ↦
            ap (λ (l : List Output). option_map (value_now (shown (part_of chart u) c es)) (find (λ o. o.var.0 == x) l)) vars_of_view
            ∙ ap (option_map (value_now (shown (part_of chart u) c es))) (find_past value_at (λ o. o.var.0) (λ t. refl) (knows_var chart u) (length chart.vars) x ge)
            ∙ sym (slice_get_past (after_entries es c.store) x (omega (arith, ge, stored, entries_length es c.store)))
      ]

      no_unit : (a : ℕ) → length chart.acts ≤ a → act_unit chart a ≡ None
      no_unit a ge = ap (option_map (λ act. act.unit.0)) (slice_get_past chart.acts a ge)

      see_count : (a : ℕ) → knows_act chart u a ≡ true → unwrap_or (option_map (count_now (shown (part_of chart u) c es)) (find (λ d. d.0.0 == a) (shown (part_of chart u) c es).unclosed)) 0 ≡ open_now chart c.items es a
      see_count a kn = elim (lt_or_ge a (length chart.acts)) [
        | inl lt ↦
            ap (λ (l : List (ActId × ℕ)). unwrap_or (option_map (count_now (shown (part_of chart u) c es)) (find (λ d. d.0.0 == a) l)) 0) acts_of_view
            ∙ ap (λ (o : Option (ActId × ℕ)). unwrap_or (option_map (count_now (shown (part_of chart u) c es)) o) 0) (find_at count_at (λ d. d.0.0) (λ t. refl) (knows_act chart u) (length chart.acts) a lt kn)
            ∙ count_now_at a lt kn come
            ∙ sym (ap (λ (o : Option ℕ). option_map_or (λ w. open_count a (close_all (completions_at w es) (c.items w))) o 0) (act_unit_at a lt))
        | inr ge ↦
            ap (λ (l : List (ActId × ℕ)). unwrap_or (option_map (count_now (shown (part_of chart u) c es)) (find (λ d. d.0.0 == a) l)) 0) acts_of_view
            ∙ ap (λ (o : Option (ActId × ℕ)). unwrap_or (option_map (count_now (shown (part_of chart u) c es)) o) 0) (find_past count_at (λ d. d.0.0) (λ t. refl) (knows_act chart u) (length chart.acts) a ge)
            ∙ sym (ap (λ (o : Option ℕ). option_map_or (λ w. open_count a (close_all (completions_at w es) (c.items w))) o 0) (no_unit a ge))
      ]

      see_done : (a : ℕ) → knows_act chart u a ≡ true → unwrap_or (option_map (λ d. nat_lt 0 (done_count a (completions_in (shown (part_of chart u) c es).next))) (find (λ d. d.0.0 == a) (shown (part_of chart u) c es).unclosed)) false ≡ done_now chart es a
      see_done a kn = elim (lt_or_ge a (length chart.acts)) [
        | inl lt ↦
            ap (λ (l : List (ActId × ℕ)). unwrap_or (option_map (λ d. nat_lt 0 (done_count a (completions_in (shown (part_of chart u) c es).next))) (find (λ d. d.0.0 == a) l)) false) acts_of_view
            ∙ ap (λ (o : Option (ActId × ℕ)). unwrap_or (option_map (λ d. nat_lt 0 (done_count a (completions_in (shown (part_of chart u) c es).next))) o) false) (find_at count_at (λ d. d.0.0) (λ t. refl) (knows_act chart u) (length chart.acts) a lt kn)
            ∙ ap (nat_lt 0) (done_now_at a lt kn come)
            ∙ sym (ap (λ (o : Option ℕ). option_map_or (λ w. nat_lt 0 (done_count a (completions_at w es))) o false) (act_unit_at a lt))
        | inr ge ↦
            ap (λ (l : List (ActId × ℕ)). unwrap_or (option_map (λ d. nat_lt 0 (done_count a (completions_in (shown (part_of chart u) c es).next))) (find (λ d. d.0.0 == a) l)) false) acts_of_view
            ∙ ap (λ (o : Option (ActId × ℕ)). unwrap_or (option_map (λ d. nat_lt 0 (done_count a (completions_in (shown (part_of chart u) c es).next))) o) false) (find_past count_at (λ d. d.0.0) (λ t. refl) (knows_act chart u) (length chart.acts) a ge)
            ∙ sym (ap (λ (o : Option ℕ). option_map_or (λ w. nat_lt 0 (done_count a (completions_at w es))) o false) (no_unit a ge))
      ]

      see_there : (e : ℕ) → e < length chart.events → knows_event chart u e ≡ true → (list_any (λ r. r.0 == e) (shown (part_of chart u) c es).raised || list_any (λ x. is_happening e x.outer) (shown (part_of chart u) c es).next) ≡ is_there c.raised es e
      see_there e lt kn =
          let k : (known_to (part_of chart u)).events e ≡ true = part_events chart u e ∙ ap₂ (λ (a b : Bool). a && b) (within e (length chart.events) lt) kn in
          ap₂ (λ (a b : Bool). a || b) (raised_known e k)
          (ap (λ (l : List Entry). list_any (λ x. is_happening e x.outer) l) next_of_view ∙ happens_cut (known_to (part_of chart u)) e k es)

      pub sees_alike : Alike chart u (sees (part_of chart u) (shown (part_of chart u) c es)) (snapshot_of chart c es)
      unfolding sees snapshot_of
      sees_alike = record { states = see_state; vars = see_var; counts = see_count; dones = see_done; there = see_there }
