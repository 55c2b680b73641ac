-- What histories that records made have.
use Rattle.std.proofs.Common.{◌≡◌, ℕ, zero, suc, ◌+◌, ◌*◌, ◌<◌, ◌≤◌, ◌==◌, ◌&&◌, not, nat_le, Bool, true, false, List, [], ◌∷◌, ◌++◌, map, filter, length, take, drop, inl, inr, refl, sym, ap, ap₂, ◌∙◌, subst, arith, le-leb, true≢false, eqb-true, is_ok}
use Rattle.std.specs.List.{sum, insert, list_all, AllByRecursion, range_with_len}
use Rattle.std.proofs.lemmas.List.{get_or_append_left, map-append, length-map}
use Rattle.std.proofs.lemmas.List.Sums.{sum_by_push}
use Rattle.wf_model.specs.Limits.{max_steps, max_units, max_starts, max_sealed}
use Rattle.wf_model.specs.declared.ids.ActId.{ActId}
use Rattle.wf_model.specs.declared.outer.Outer.{Outer}
use Rattle.wf_model.specs.declared.outer.Outer.TheVariants.{Happen, Complete}
use Rattle.wf_model.specs.declared.update.Update.{Update}
use Rattle.wf_model.specs.declared.chart.Chart.{Chart}
use Rattle.wf_model.specs.Accepted.{IsAccepted}
use Rattle.wf_model.proofs.Bools.{and_both, and_true}
use Rattle.wf_semantics.proofs.Children.{lt_or_ge}
use Rattle.wf_parts.specs.declared.data.Known.{Known}
use Rattle.wf_parts.specs.declared.data.PartData.{PartData}
use Rattle.wf_parts.specs.Parts.{part_of, IsPart}
use Rattle.wf_parts.specs.Peers.{known_of, peers_of}
use Rattle.wf_codec.specs.Ranges.{IsInRange, any_numbers, chart_numbers, IsOuter, Ascend}
use Rattle.wf_codec.specs.Records.{IsRecordInRange}
use Rattle.wf_codec.specs.declared.record.JournalRecord.TheVariants.{Admit, Turn}
use Rattle.wf_codec.proofs.Fits.{outer_fits as wide_outer}
use Rattle.wf_views.specs.Laws.{IsViewOf}
use Rattle.wf_lockstep.specs.Within.{is_at_unit}
use Rattle.wf_histories.specs.Histories.{Admission, History, seals, taken, inputs_at, sealed_by, local, local_update}
use Rattle.wf_histories.specs.Follows.{item_acts}
use Rattle.wf_owns.specs.Sorted.{is_fit, IsSortedView}
use Rattle.wf_owns.specs.Ranges.{has_item}
use Rattle.wf_owns.proofs.Ranged.{outer_fits}
use Rattle.wf_worlds.specs.Admitting.{outers, lets_in}
use Rattle.wf_worlds.specs.Counts.{STEP_STARTS, starts_few, HasFewStarts, counts_within}
use Rattle.wf_worlds.specs.Growing.{Fits, Good, admitted, turned, unsealed}
use Rattle.wf_worlds.specs.Worlds.{first_history}
use Rattle.wf_worlds.proofs.GoesOn.{inputs_on, turn_on, admit_on}
use Rattle.wf_worlds.proofs.PartRule.{let_in}
use Rattle.wf_worlds.proofs.Counted.{counts_are_bounded}
use Rattle.wf_worlds.proofs.Growing.{admit_keeps, turn_keeps, turn_seals, turn_takes, sealed_pass}
use Rattle.wf_worlds.proofs.Keeping.{local_is_view, local_is_sorted, local_update_in_range, without}
use Rattle.std.specs.List.Sorted.{IsStrictlyIncreasing}
use Rattle.std.proofs.lemmas.List.Kept.{IsStrictlyIncreasing-filter}
use Rattle.wf_lockstep.proofs.Owners.{range_ascends}
use Rattle.wf_owns.proofs.Small.{ascend}
use Rattle.wf_steps.specs.Fitting.{suits, is_state_from, is_outer_from, is_input, are_inputs_of, are_inputs}
use Rattle.wf_steps.specs.Growing.{MayAdmit, MayTurn, IsMade, no_records, with_admission, with_turn, sealing}
use Rattle.wf_steps.specs.Laws.{IsSound, MadeIsSound, UpdatesInRange, AdmitInRange, TurnInRange}
use Rattle.wf_steps.proofs.Turning.{turn_fits, admit_fits, inputs_now}

pub made_fits : (part : PartData) {h : History} → IsMade part h → Fits h
made_fits part no_records = omega arith
made_fits part (with_admission h a made may) = admit_fits h a (made_fits part made)
made_fits part (with_turn h inputs made may) = turn_fits h inputs (made_fits part made)

pub made_steps : (part : PartData) {h : History} → IsMade part h → taken h ≤ max_steps
made_steps part no_records = omega arith
made_steps part (with_admission h a made may) = made_steps part made
made_steps part (with_turn h inputs made may) = omega (arith, turn_takes h inputs, may.steps)

pub made_sealed : (part : PartData) {h : History} → IsMade part h → sum (seals h) ≤ max_sealed * taken h
made_sealed part no_records = omega arith
made_sealed part (with_admission h a made may) = made_sealed part made
made_sealed part (with_turn h inputs made may) =
    let sums : sum (seals (turned h inputs)) ≡ sum (seals h) + sealing h = ap sum (turn_seals h inputs) ∙ sum_by_push (λ x. x) (seals h) (sealing h) in
    omega (arith, sums, turn_takes h inputs, made_sealed part made)

first_good : (chart : Chart) (u v : ℕ) → Good chart u (first_history v)
unfolding item_acts
first_good chart u v = record { at_unit = refl; items = refl; there = λ j l. absurd (omega (arith, l)); waiting = refl; once = refl; steps = refl; few = refl }

pub made_good : (part : PartData) (is : IsPart part) {h : History} → IsMade part h → Good is.chart is.unit h
made_good part is no_records = first_good is.chart is.unit part.unit.0
made_good part is (with_admission h a made may) =
    admit_keeps is.chart is.unit h a is.accepted (made_fits part made) (made_good part is made) (ap (λ (p : PartData). is_ok (lets_in p h a.outer)) (sym is.is) ∙ may.lets)
made_good part is (with_turn h inputs made may) = turn_keeps is.chart is.unit h inputs (made_fits part made) (made_good part is made)

pub made_is_sound : MadeIsSound
made_is_sound part is h made = record { fits = made_fits part made; good = made_good part is made; steps = made_steps part made }

-- WHAT ITS TURNS TOOK IN

pub record AreTaken (part : PartData) (h : History) (j : ℕ) : Type 0 where
  pub suited : are_inputs part (j + 1) (inputs_at h j) ≡ true
  pub ranges : AllByRecursion IsInRange (inputs_at h j)

pub inputs_taken : (part : PartData) {h : History} → IsMade part h → (j : ℕ) → j < taken h → AreTaken part h j
inputs_taken part no_records j l = absurd (omega (arith, l))
inputs_taken part (with_admission h a made may) j l = let before = inputs_taken part made j l in record { suited = before.suited; ranges = before.ranges }
inputs_taken part (with_turn h inputs made may) j l = elim (lt_or_ge j (taken h)) [
  | inl k ↦
      let before = inputs_taken part made j k in
      let same : inputs_at (turned h inputs) j ≡ inputs_at h j = inputs_on h (turned h inputs) (turn_on h inputs) (made_fits part made) j k in
      let P : List Update → Type 0 = λ l. AllByRecursion IsInRange l in
      record { suited = ap (are_inputs part (j + 1)) same ∙ before.suited; ranges = subst P (sym same) before.ranges }
  | inr k ↦
      let here : j ≡ taken h = omega (arith, turn_takes h inputs, l, k) in
      let same : inputs_at (turned h inputs) j ≡ inputs = ap (inputs_at (turned h inputs)) here ∙ inputs_now h inputs in
      let P : List Update → Type 0 = λ l. AllByRecursion IsInRange l in
      record { suited = ap₂ (λ (n : ℕ) (l : List Update). are_inputs part (n + 1) l) here same ∙ may.suited; ranges = subst P (sym same) may.ranges }
]

suits_sorts : (part : PartData) (update : Update) → suits part update ≡ true → is_fit part update ≡ true
suits_sorts part update h =
    (and_both (list_all (is_outer_from part update.from.0) update.outer) (is_fit part update) (and_both (list_all (is_state_from part update.from.0) update.flips) (list_all (is_outer_from part update.from.0) update.outer && is_fit part update) h).1).1

all_sorted : (part : PartData) (step : ℕ) (peers : List Known) (inputs : List Update) → are_inputs_of part step peers inputs ≡ true → list_all (is_fit part) inputs ≡ true
all_sorted part step [] [] h = refl
all_sorted part step [] (x ∷ xs) h = absurd (true≢false (sym h))
all_sorted part step (p ∷ ps) [] h = absurd (true≢false (sym h))
all_sorted part step (p ∷ ps) (x ∷ xs) h =
    let both = and_both (is_input part step p x) (are_inputs_of part step ps xs) h in
    let here = and_both (x.step == step) (suits part x) (and_both (x.from.0 == p.unit.0) ((x.step == step) && suits part x) both.0).1 in
    and_true (is_fit part x) (list_all (is_fit part) xs) (suits_sorts part x here.1) (all_sorted part step ps xs both.1)

as_many : (part : PartData) (step : ℕ) (peers : List Known) (inputs : List Update) → are_inputs_of part step peers inputs ≡ true → length inputs ≡ length peers
as_many part step [] [] h = refl
as_many part step [] (x ∷ xs) h = absurd (true≢false (sym h))
as_many part step (p ∷ ps) [] h = absurd (true≢false (sym h))
as_many part step (p ∷ ps) (x ∷ xs) h = ap suc (as_many part step ps xs (and_both (is_input part step p x) (are_inputs_of part step ps xs) h).1)

pub each_few : (inputs : List Update) → AllByRecursion IsInRange inputs → list_all starts_few inputs ≡ true
each_few [] h = refl
each_few (x ∷ xs) h = and_true (starts_few x) (list_all starts_few xs) (le-leb (length x.starts) max_starts h.0.starts_few) (each_few xs h.1)

peers_few : (part : PartData) (is : IsPart part) → length part.peers < length is.chart.units
unfolding part_of peers_of
peers_few part is =
    let n = length is.chart.units in
    let same : length part.peers ≡ length (map (known_of is.chart is.unit) (filter (λ v. not (v == is.unit)) (range_with_len 0 n))) = ap (λ (p : PartData). length p.peers) is.is in
    omega (arith, same, length-map (filter (λ v. not (v == is.unit)) (range_with_len 0 n)) (known_of is.chart is.unit), without is.unit 0 n (omega arith) (omega (arith, is.within)))

pub inputs_few : (part : PartData) (is : IsPart part) (step : ℕ) (inputs : List Update) → are_inputs part step inputs ≡ true → length inputs < length is.chart.units
inputs_few part is step inputs h = omega (arith, as_many part step part.peers inputs h, peers_few part is)

module _ (part : PartData) (is : IsPart part) {h : History} (made : IsMade part h) where
  few_starts : HasFewStarts is.chart h
  few_starts = record {
    peers = λ j l. inputs_few part is (j + 1) (inputs_at h j) (inputs_taken part made j l).suited;
    starts = λ j l. each_few (inputs_at h j) (inputs_taken part made j l).ranges;
  }

  pub counts_made : counts_within (STEP_STARTS * taken h) (local part h (taken h)) ≡ true
  counts_made =
      ap (λ (p : PartData). counts_within (STEP_STARTS * taken h) (local p h (taken h))) is.is
      ∙ counts_are_bounded is.chart is.unit (taken h) h is.accepted few_starts (omega arith)

  pub sorted_made : IsSortedView part (local part h (taken h))
  sorted_made =
      let P : PartData → Type 0 = λ p. IsSortedView p (local p h (taken h)) in
      subst P (sym is.is)
      (local_is_sorted is.chart is.unit (taken h) h is.accepted (sealed_pass (is_at_unit is.chart is.unit) h (made_good part is made).at_unit)
      (λ i l. ap (λ (p : PartData). list_all (is_fit p) (inputs_at h i)) (sym is.is) ∙ all_sorted part (i + 1) part.peers (inputs_at h i) (inputs_taken part made i l).suited))

  pub view_made : IsViewOf part (local part h (taken h))
  view_made = local_is_view part h (taken h)

  pub range_made : (j : ℕ) → j ≤ taken h → IsInRange (local_update part h (suc j))
  range_made j l =
      let P : PartData → Type 0 = λ p. IsInRange (local_update p h (suc j)) in
      subst P (sym is.is) (local_update_in_range is.chart is.unit j h is.accepted is.within (made_good part is made) (made_steps part made) l)

pub updates_in_range : UpdatesInRange
updates_in_range part h j is made l = range_made part is made j l

-- RECORDS THAT MAY FOLLOW

pub admit_in_range : AdmitInRange
admit_in_range part h a is may =
    let lets : is_ok (lets_in (part_of is.chart is.unit) h a.outer) ≡ true = ap (λ (p : PartData). is_ok (lets_in p h a.outer)) (sym is.is) ∙ may.lets in
    let known = let_in is.chart is.unit is.accepted (item_acts (part_of is.chart is.unit) h (taken h)) (outers h.admissions) a.outer lets in
    wide_outer a.outer (outer_fits is.chart is.unit is.accepted a.outer known.0 known.1)

-- updates of peers in unit order ascend

froms : (part : PartData) (step : ℕ) (peers : List Known) (inputs : List Update) → are_inputs_of part step peers inputs ≡ true → map (λ x. x.from.0) inputs ≡ map (λ p. p.unit.0) peers
froms part step [] [] h = refl
froms part step [] (x ∷ xs) h = absurd (true≢false (sym h))
froms part step (p ∷ ps) [] h = absurd (true≢false (sym h))
froms part step (p ∷ ps) (x ∷ xs) h =
    let both = and_both (is_input part step p x) (are_inputs_of part step ps xs) h in
    ap₂ (λ (n : ℕ) (l : List ℕ). n ∷ l) (eqb-true x.from.0 p.unit.0 (and_both (x.from.0 == p.unit.0) ((x.step == step) && suits part x) both.0).0) (froms part step ps xs both.1)

units_back : (chart : Chart) (u : ℕ) (vs : List ℕ) → map (λ (p : Known). p.unit.0) (map (known_of chart u) vs) ≡ vs
units_back chart u [] = refl
units_back chart u (v ∷ vs) = ap (λ (l : List ℕ). v ∷ l) (units_back chart u vs)

peers_are : (part : PartData) (is : IsPart part) → map (λ (p : Known). p.unit.0) part.peers ≡ filter (λ v. not (v == is.unit)) (range_with_len 0 (length is.chart.units))
unfolding part_of peers_of
peers_are part is = ap (λ (p : PartData). map (λ (k : Known). k.unit.0) p.peers) is.is ∙ units_back is.chart is.unit (filter (λ v. not (v == is.unit)) (range_with_len 0 (length is.chart.units)))

pub inputs_ascend : (part : PartData) (is : IsPart part) (step : ℕ) (inputs : List Update) → are_inputs part step inputs ≡ true → Ascend (λ u. u.from.0) inputs
inputs_ascend part is step inputs h =
    ascend (λ (x : Update). x.from.0) inputs
    (subst IsStrictlyIncreasing (sym (froms part step part.peers inputs h ∙ peers_are part is))
    (IsStrictlyIncreasing-filter (λ v. not (v == is.unit)) (range_with_len 0 (length is.chart.units)) (range_ascends (length is.chart.units))))

pub turn_in_range : TurnInRange
turn_in_range part h inputs is may = (may.ranges, inputs_ascend part is (taken h + 1) inputs may.suited, omega arith)
