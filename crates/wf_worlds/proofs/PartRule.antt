-- The admission rule by the part is the chart's.
use Rattle.std.proofs.Common.{◌≡◌, ℕ, zero, suc, ◌+◌, ◌<◌, ◌==◌, ◌||◌, ◌&&◌, not, nat_le, nat_lt, cond, Bool, true, false, List, [], ◌∷◌, length, map, find, filter, Option, Some, None, Result, Ok, Err, is_ok, unwrap_or, slice_get, inl, inr, refl, sym, ap, ap₂, ◌∙◌, arith, eqb-true, eq-eqb, true≢false, ltb-true, lt-ltb}
use Rattle.std.specs.Prelude.{option_map}
use Rattle.std.specs.Option.{option_map_or}
use Rattle.std.specs.List.{list_any, list_all, range_with_len}
use Rattle.std.proofs.lemmas.Option.{slice_get_past}
use Rattle.wf_model.specs.declared.ids.VarId.{VarId}
use Rattle.wf_model.specs.declared.ids.ActId.{ActId}
use Rattle.wf_model.specs.declared.value.Sort.TheVariants as s
use Rattle.wf_model.specs.declared.chart.Activity.{Activity}
use Rattle.wf_model.specs.declared.chart.Event.{Event}
use Rattle.wf_model.specs.declared.chart.Variable.{Variable}
use Rattle.wf_model.specs.declared.chart.Chart.{Chart}
use Rattle.wf_model.specs.declared.outer.Output.{Output}
use Rattle.wf_model.specs.declared.outer.Outer.{Outer}
use Rattle.wf_model.specs.declared.outer.Outer.TheVariants.{Happen, Complete}
use Rattle.wf_model.specs.declared.outer.OuterFault.{OuterFault}
use Rattle.wf_model.specs.declared.outer.OuterFault.TheVariants.{WrongUnit, NoItem, AlreadyDone, WrongOutput}
use Rattle.wf_parts.specs.declared.data.KnownEvent.{KnownEvent}
use Rattle.wf_parts.specs.declared.data.KnownActivity.{KnownActivity}
use Rattle.wf_model.specs.Accepted.{IsAccepted, is_known_activity, is_unit}
use Rattle.wf_model.specs.Seen.{val_sort}
use Rattle.wf_model.specs.Sorts.{alike}
use Rattle.wf_semantics.specs.Admission.{is_event_at, is_act_at, are_values, are_outputs_of, completes}
use Rattle.wf_model.proofs.Bools.{or_left, and_both, and_true, mem_any, any_mem, any_map, bool_iff}
use Rattle.wf_semantics.proofs.Children.{item_at, lt_or_ge}
use Rattle.wf_semantics.proofs.Facts.{parts}
use Rattle.wf_parts.specs.Known.{knows_event, knows_act, is_such, concerns, is_read}
use Rattle.wf_parts.specs.Reads.{is_on, reads_act}
use Rattle.wf_parts.specs.Parts.{part_of, known_event, known_activity, sorted_output}
use Rattle.wf_lockstep.specs.Within.{is_at_unit}
use Rattle.wf_lockstep.proofs.Numbered.{at_number, numbered_at, find_at, mem_numbers}
use Rattle.wf_lockstep.proofs.Sight.{no_activity, act_at, acts_of_part, act_id}
use Rattle.wf_histories.specs.Follows.{is_own_act, is_item, is_there, is_first}
use Rattle.wf_histories.proofs.Bridge.{unit_of_part}
use Rattle.wf_histories.proofs.Items.{own_act}
use Rattle.wf_owns.specs.Ranges.{has_item}
use Rattle.wf_worlds.specs.Admitting.{is_own_event, are_own_values, are_own_outputs, may_admit}
use Rattle.wf_model.proofs.Items.{all_at}

module _ (chart : Chart) (u : ℕ) where
  abbrev no_event : ℕ → KnownEvent
  no_event e = record { id = record { 0 = e }; unit = None }

  abbrev event_at : ℕ → KnownEvent
  event_at e = at_number known_event no_event chart.events e

  event_id_at : (e : ℕ) → (event_at e).id.0 ≡ e
  event_id_at e = go (slice_get chart.events e)
    where
      go : (o : Option Event) → (unwrap_or (option_map (λ y. known_event (e, y)) o) (no_event e)).id.0 ≡ e
      go None = refl
      go (Some v) = refl

  events_of_part : (part_of chart u).events ≡ map event_at (filter (knows_event chart u) (range_with_len 0 (length chart.events)))
  unfolding part_of
  events_of_part = numbered_at known_event no_event (knows_event chart u) chart.events

  event_there : (e : ℕ) → option_map_or (λ unit. unit.0 == u) (event_at e).unit false ≡ is_event_at chart u e
  event_there e = go (slice_get chart.events e)
    where
      go : (o : Option Event) → option_map_or (λ unit. unit.0 == u) (unwrap_or (option_map (λ y. known_event (e, y)) o) (no_event e)).unit false ≡ option_map_or (λ event. option_map_or (λ unit. unit.0 == u) event.unit false) o false
      go None = refl
      go (Some v) = refl

  pub own_event : (e : ℕ) → is_own_event (part_of chart u) e ≡ is_event_at chart u e
  unfolding knows_event
  own_event e =
      ap₂ (λ (events : List KnownEvent) (w : ℕ). list_any (λ known. (known.id.0 == e) && option_map_or (λ unit. unit.0 == w) known.unit false) events) events_of_part (unit_of_part chart u)
      ∙ any_map (λ (known : KnownEvent). (known.id.0 == e) && option_map_or (λ unit. unit.0 == u) known.unit false) event_at numbers
      ∙ bool_iff (list_any test numbers) (is_event_at chart u e) to from
    where
      numbers : List ℕ
      numbers = filter (knows_event chart u) (range_with_len 0 (length chart.events))

      test : ℕ → Bool
      test x = ((event_at x).id.0 == e) && option_map_or (λ unit. unit.0 == u) (event_at x).unit false

      to : list_any test numbers ≡ true → is_event_at chart u e ≡ true
      to h =
          let w = any_mem test numbers h in
          let both = and_both ((event_at w.0).id.0 == e) (option_map_or (λ unit. unit.0 == u) (event_at w.0).unit false) w.2 in
          let same : w.0 ≡ e = sym (event_id_at w.0) ∙ eqb-true (event_at w.0).id.0 e both.0 in
          ap (is_event_at chart u) (sym same) ∙ sym (event_there w.0) ∙ both.1

      from : is_event_at chart u e ≡ true → list_any test numbers ≡ true
      from h = elim (lt_or_ge e (length chart.events)) [
        | inl lt ↦
            mem_any test e numbers (mem_numbers (knows_event chart u) (length chart.events) e lt (or_left (is_event_at chart u e) (list_any (λ t. concerns chart u t && is_such (is_on e) chart t) (Rattle.wf_model.specs.Tree.all_transitions chart)) h))
            (and_true ((event_at e).id.0 == e) (option_map_or (λ unit. unit.0 == u) (event_at e).unit false) (eq-eqb (event_at e).id.0 e (event_id_at e)) (event_there e ∙ h))
        | inr ge ↦ absurd (true≢false (sym h ∙ ap (λ (o : Option Event). option_map_or (λ event. option_map_or (λ unit. unit.0 == u) event.unit false) o false) (slice_get_past chart.events e ge)))
      ]

  -- OUTPUTS

  values_same : (xs : List VarId) (os : List Output) → list_all (λ x. nat_lt x.0 (length chart.vars)) xs ≡ true → are_own_values (map (sorted_output chart) xs) os ≡ are_values chart xs os
  values_same [] [] h = refl
  values_same [] (o ∷ os) h = refl
  values_same (x ∷ xs) [] h = refl
  values_same (x ∷ xs) (o ∷ os) h =
      let both = and_both (nat_lt x.0 (length chart.vars)) (list_all (λ x. nat_lt x.0 (length chart.vars)) xs) h in
      let w = item_at chart.vars x.0 (ltb-true x.0 (length chart.vars) both.0) in
      ap₂ (λ (a b : Bool). (o.var.0 == x.0) && (a && b)) (ap (λ (v : Option Variable). alike (unwrap_or (option_map (λ v. v.sort) v) s.Bool) (val_sort o.val)) w.1 ∙ sym (ap (λ (v : Option Variable). option_map_or (λ sort. alike sort (val_sort o.val)) (option_map (λ v. v.sort) v) false) w.1))
      (values_same xs os both.1)

  module _ (ok : IsAccepted chart) where
    pub own_outputs : (a : ℕ) (os : List Output) → is_act_at chart u a ≡ true → are_own_outputs (part_of chart u) a os ≡ are_outputs_of chart a os
    unfolding knows_act
    own_outputs a os at = elim (lt_or_ge a (length chart.acts)) [
      | inl lt ↦
          let w = item_at chart.acts a lt in
          let known : is_known_activity chart w.0 ≡ true = all_at (is_known_activity chart) chart.acts (parts chart ok).known_activities a w.0 w.1 in
          let here : (w.0.unit.0 == u) ≡ true = ap (λ (o : Option Activity). option_map_or (λ unit. unit == u) (option_map (λ act. act.unit.0) o) false) (sym w.1) ∙ at in
          ap (λ (l : List KnownActivity). option_map_or (λ (known : KnownActivity). are_own_values known.outputs os) (find (λ known. known.id.0 == a) l) false) (acts_of_part chart u)
          ∙ ap (λ (o : Option KnownActivity). option_map_or (λ (known : KnownActivity). are_own_values known.outputs os) o false)
          (find_at (act_at chart u) (λ known. known.id.0) (λ t. ap (λ (i : ActId). i.0) (act_id chart u t)) (knows_act chart u) (length chart.acts) a lt (or_left (is_act_at chart u a) (is_read chart u (reads_act a)) at))
          ∙ at_act w here
          ∙ values_same w.0.outputs os (and_both (is_unit chart w.0.unit) (list_all (λ x. nat_lt x.0 (length chart.vars)) w.0.outputs) known).1
          ∙ ap (λ (o : Option Activity). option_map_or (λ act. are_values chart act.outputs os) o false) (sym w.1)
      | inr ge ↦ absurd (true≢false (sym at ∙ ap (λ (o : Option ℕ). option_map_or (λ unit. unit == u) o false) (ap (option_map (λ act. act.unit.0)) (slice_get_past chart.acts a ge))))
    ]
      where
        at_act : (w : (x : Activity) × (slice_get chart.acts a ≡ Some x)) → (w.0.unit.0 == u) ≡ true → are_own_values (act_at chart u a).outputs os ≡ are_own_values (map (sorted_output chart) w.0.outputs) os
        at_act w here =
            ap (λ (o : Option Activity). are_own_values (unwrap_or (option_map (λ y. known_activity chart u (a, y)) o) (no_activity a)).outputs os) w.1
            ∙ ap (λ (b : Bool). are_own_values (cond b (map (sorted_output chart) w.0.outputs) []) os) here

    abbrev answer : Bool → Bool → Bool → Bool → Result (Unit {0}) OuterFault
    answer here of shut wanted = cond (not here) (Err WrongUnit) (cond (not of) (Err NoItem) (cond shut (Err AlreadyDone) (cond (not wanted) (Err WrongOutput) (Ok tt))))

    abbrev event_answer : Bool → Result (Unit {0}) OuterFault
    event_answer at = cond at (Ok tt) (Err WrongUnit)

    event_test : (at : Bool) → is_ok (event_answer at) ≡ true → at ≡ true
    event_test true h = refl
    event_test false h = absurd (true≢false (sym h))

    tests : (here of shut wanted : Bool) → is_ok (answer here of shut wanted) ≡ true → (here ≡ true) × (of ≡ true) × (shut ≡ false) × (wanted ≡ true)
    tests true true false true h = (refl, refl, refl, refl)
    tests true true false false h = absurd (true≢false (sym h))
    tests true true true wanted h = absurd (true≢false (sym h))
    tests true false shut wanted h = absurd (true≢false (sym h))
    tests false of shut wanted h = absurd (true≢false (sym h))

    item_some : (acts : List ActId) (n a : ℕ) → is_item acts n a ≡ true → nat_le 1 n ≡ true
    item_some acts zero a h = absurd (true≢false (sym h))
    item_some acts (suc n) a h = Rattle.std.proofs.Common.le-leb 1 (suc n) (omega arith)

    -- what is let in is at the unit, of an item that is there, and of none that is closed or pending
    pub let_in : (acts : List ActId) (before : List Outer) (o : Outer) → is_ok (may_admit (part_of chart u) acts before o) ≡ true → (is_at_unit chart u o ≡ true) × (has_item o ≡ true) × (is_there acts o ≡ true) × (is_first before o ≡ true)
    unfolding may_admit
    let_in acts before (Happen e) h = (sym (own_event e.0) ∙ event_test (is_own_event (part_of chart u) e.0) h, refl, refl, refl)
    let_in acts before (Complete n a os) h =
        let t = tests (is_own_act (part_of chart u) a.0) (is_item acts n a.0) (list_any (completes n) before) (are_own_outputs (part_of chart u) a.0 os) h in
        let at : is_act_at chart u a.0 ≡ true = sym (own_act chart u a.0) ∙ t.0 in (
          and_true (is_act_at chart u a.0) (are_outputs_of chart a.0 os) at (sym (own_outputs a.0 os at) ∙ t.3),
          item_some acts n a.0 t.1,
          t.1,
          ap not t.2,
        )
