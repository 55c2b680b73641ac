-- The merged list of a world, by its places and by its entries, and what fires in steps of a central run.
use Rattle.std.proofs.Common.{◌≡◌, ◌∙◌, ◌≤◌, ◌<◌, ℕ, zero, suc, ◌+◌, ◌-◌, ◌++◌, List, [], ◌∷◌, length, length-append, map, flat_map, take, drop, get_or, Option, Some, None, option_map, unwrap_or, slice_get, refl, sym, ap, ap₂, subst, arith}
use Rattle.std.specs.Option.{option_to_list}
use Rattle.std.specs.List.{range_with_len}
use Rattle.std.proofs.lemmas.List.{at_drop_more, drop_all, length-map}
use Rattle.std.proofs.lemmas.List.Concat.{flat_map-append}
use Rattle.std.proofs.lemmas.List.FromFn.{length-map-range_with_len}
use Rattle.std.proofs.lemmas.Option.{slice_get-map, slice_get_past}
use Rattle.wf_model.specs.Ids.{trans_id}
use Rattle.wf_model.specs.declared.ids.TransId.{TransId}
use Rattle.wf_model.specs.declared.chart.Chart.{Chart}
use Rattle.wf_model.specs.declared.outer.Entry.{Entry}
use Rattle.wf_semantics.specs.Run.{CentralState, next_state, fired_in}
use Rattle.wf_runs.specs.Runs.{IsRun, IsRunFrom}
use Rattle.wf_central.specs.Kept.{notes_of}
use Rattle.wf_machine.specs.declared.admission.Admission as of
use Rattle.wf_machine.specs.declared.admission.Place.{Place}
use Rattle.wf_machine.specs.Server.{Server, new_server, sealed_before, sealed_at, numbers_sealed, outers_sealed}
use Rattle.wf_machine.specs.Machine.{CountingMachine, server, all_units, entry_of, place_of, entries_at, places_at, least_of, merged_places}
use Rattle.wf_histories.specs.Histories.{Admission, History}
use Rattle.wf_histories.specs.Laws.{AreLean}
use Rattle.wf_histories.proofs.Lets.{central_law}
use Rattle.wf_bridge.specs.Bridging.{CountsOf}
use Rattle.wf_bridge.proofs.Placing.{merged_same}
use Rattle.wf_slot.specs.Slots.{unit_of}
use Rattle.wf_slot.specs.Units.{UnitState, new_unit, counted, server_of}
use Rattle.wf_world.specs.declared.mail.Sent.{Sent}
use Rattle.wf_world.specs.Machines.{machine_of}
use Rattle.wf_world.specs.Fleets.{units_of}
use Rattle.wf_world.specs.Sounds.{hist_of}
use Rattle.wf_world.specs.States.{Kept, state_of}
use Rattle.wf_world.proofs.Counts.{counts}
use Rattle.wf_top.specs.Places.{entry_at, entries_of}
use Rattle.wf_top.specs.Summaries.{merged_entries, fired_along}

-- ONE PLACE

-- what the machine counts of a unit are the admissions of its history
admissions_are : (units : List UnitState) (messages : List Sent) (u : ℕ) → (server (machine_of units messages) u).admissions ≡ map counted (hist_of units u).admissions
admissions_are units messages u =
    ap (λ (o : Option Server). (unwrap_or o new_server).admissions) (slice_get-map server_of units u) ∙ by_unit (slice_get units u)
  where
    by_unit : (o : Option UnitState) → (unwrap_or (option_map server_of o) new_server).admissions ≡ map counted (unwrap_or o (new_unit u)).past.admissions
    by_unit None = refl
    by_unit (Some x) = refl

same_entry : (u : ℕ) (o : Option Admission) → option_map (λ (a : of.Admission). entry_of u a.outer) (option_map counted o) ≡ option_map (λ (a : Admission). entry_of u a.outer) o
same_entry u None = refl
same_entry u (Some a) = refl

-- what stands at a place is what the history has under its number
pub entry_is : (kept : Kept) (place : Place) (xs : List Admission) → xs ≡ (hist_of (units_of kept.slots) place.unit.0).admissions
    → option_map (λ (a : Admission). entry_of place.unit.0 a.outer) (slice_get xs (place.number - 1)) ≡ entry_at (state_of kept).machine place
entry_is kept place xs is =
    let k : ℕ = place.number - 1 in
    let units : List UnitState = units_of kept.slots in
    let here : List Admission = (hist_of units place.unit.0).admissions in
    ap (λ (l : List Admission). option_map (λ (a : Admission). entry_of place.unit.0 a.outer) (slice_get l k)) is
    ∙ sym (same_entry place.unit.0 (slice_get here k))
    ∙ ap (λ (o : Option of.Admission). option_map (λ (a : of.Admission). entry_of place.unit.0 a.outer) o) (sym (slice_get-map counted here k))
    ∙ ap (λ (l : List of.Admission). option_map (λ (a : of.Admission). entry_of place.unit.0 a.outer) (slice_get l k)) (sym (admissions_are units kept.messages place.unit.0))

-- nothing stands at a place of no unit
pub no_entry : (kept : Kept) (place : Place) → slice_get kept.slots place.unit.0 ≡ None → None ≡ entry_at (state_of kept).machine place
no_entry kept place none =
    let k : ℕ = place.number - 1 in
    let gone : slice_get (units_of kept.slots) place.unit.0 ≡ None = slice_get-map unit_of kept.slots place.unit.0 ∙ ap (option_map unit_of) none in
    let empty : (hist_of (units_of kept.slots) place.unit.0).admissions ≡ [] = ap (λ (o : Option UnitState). (unwrap_or o (new_unit place.unit.0)).past.admissions) gone in
    sym (ap (λ (o : Option Admission). option_map (λ (a : Admission). entry_of place.unit.0 a.outer) o) (slice_get_past [] k (omega arith)))
    ∙ entry_is kept place [] (sym empty)

-- ALL PLACES

none_taken : (k : ℕ) (xs : List of.Admission) → xs ≡ [] → take k xs ≡ []
none_taken zero xs is = refl
none_taken (suc k) xs is = ap (take (suc k)) is

-- the entries of these admissions of unit u
abbrev entries_from : ℕ → List of.Admission → List Entry
entries_from u xs = map (entry_of u) (map (λ a. a.outer) xs)

one_more : (u : ℕ) (xs : List of.Admission) (s k : ℕ) → option_to_list (option_map (λ (a : of.Admission). entry_of u a.outer) (slice_get xs s)) ++ entries_from u (take k (drop (suc s) xs)) ≡ entries_from u (take (suc k) (drop s xs))
one_more u [] zero k = ap (entries_from u) (none_taken k [] refl)
one_more u [] (suc s) k = ap (entries_from u) (none_taken k [] refl)
one_more u (x ∷ xs) zero k = refl
one_more u (x ∷ xs) (suc s) k = one_more u xs s k

-- so many numbers behind s
numbers_are : (m : CountingMachine) (u s k : ℕ) → flat_map (entries_of m) (map (place_of u) (range_with_len (s + 1) k)) ≡ entries_from u (take k (drop s (server m u).admissions))
numbers_are m u s zero = refl
numbers_are m u s (suc k) =
    let xs : List of.Admission = (server m u).admissions in
    let before : s + 1 - 1 ≡ s = omega arith in
    let next : s + 1 ≡ suc s = omega arith in
    ap₂ (λ (i : ℕ) (l : List Entry). option_to_list (option_map (λ (a : of.Admission). entry_of u a.outer) (slice_get xs i)) ++ l) before
    (numbers_are m u (s + 1) k ∙ ap (λ (i : ℕ). entries_from u (take k (drop i xs))) next)
    ∙ one_more u xs s k

turn_is : (m : CountingMachine) (u j : ℕ) → flat_map (entries_of m) (map (place_of u) (numbers_sealed (server m u).sealed j)) ≡ map (entry_of u) (outers_sealed (server m u).admissions (server m u).sealed j)
turn_is m u zero = refl
turn_is m u (suc i) = numbers_are m u (sealed_before (server m u).sealed i) (sealed_at (server m u).sealed i)

turns_are : (m : CountingMachine) (j : ℕ) (us : List ℕ) → flat_map (entries_of m) (flat_map (λ u. map (place_of u) (numbers_sealed (server m u).sealed j)) us)
    ≡ flat_map (λ u. map (entry_of u) (outers_sealed (server m u).admissions (server m u).sealed j)) us
turns_are m j [] = refl
turns_are m j (u ∷ us) =
    flat_map-append (entries_of m) (map (place_of u) (numbers_sealed (server m u).sealed j)) (flat_map (λ u. map (place_of u) (numbers_sealed (server m u).sealed j)) us)
    ∙ ap₂ (λ (xs ys : List Entry). xs ++ ys) (turn_is m u j) (turns_are m j us)

step_is : (m : CountingMachine) (k : ℕ) → flat_map (entries_of m) (places_at m k) ≡ entries_at m k
unfolding places_at entries_at
step_is m zero = refl
step_is m (suc zero) = refl
step_is m (suc (suc j)) = turns_are m j (all_units m)

steps_are : (m : CountingMachine) (ks : List ℕ) → map (flat_map (entries_of m)) (map (places_at m) ks) ≡ map (entries_at m) ks
steps_are m [] = refl
steps_are m (k ∷ ks) = ap₂ (λ (x : List Entry) (xs : List (List Entry)). x ∷ xs) (step_is m k) (steps_are m ks)

-- the entries at the places of the merged list are the merged list
pub merged_are : (m : CountingMachine) (places : List (List Place)) → places ≡ merged_places m → map (flat_map (entries_of m)) places ≡ merged_entries m
unfolding merged_places
merged_are m places is = ap (map (flat_map (entries_of m))) is ∙ steps_are m (range_with_len 1 (least_of m.servers + 2))

pub merged_length : (m : CountingMachine) → length (merged_places m) ≡ least_of m.servers + 2
unfolding merged_places
merged_length m = length-map-range_with_len (places_at m) 1 (least_of m.servers + 2)

-- THE RUN

-- the merged list of a world is a run of its chart, by the central law
pub merged_runs : (kept : Kept) → AreLean kept.chart (hist_of (units_of kept.slots)) → length kept.slots ≡ length kept.chart.units → IsRun kept.chart (merged_entries (state_of kept).machine)
merged_runs kept are count =
    let n : ℕ = length kept.chart.units in
    let h : ℕ → History = hist_of (units_of kept.slots) in
    let m : CountingMachine = (state_of kept).machine in
    let counted_by : CountsOf m n h = counts kept.chart are.accepted (units_of kept.slots) kept.messages (length-map kept.slots unit_of ∙ count) in
    subst (IsRun kept.chart) (sym (merged_same m n h counted_by).1) (central_law kept.chart h are).run

-- and so are its first steps
pub first_steps : (chart : Chart) (c : CentralState) (n : ℕ) (steps : List (List Entry)) → IsRunFrom chart c steps → IsRunFrom chart c (take n steps)
first_steps chart c zero steps run = tt
first_steps chart c (suc n) [] run = tt
first_steps chart c (suc n) (entries ∷ more) run = (run.0, first_steps chart (next_state chart c entries) n more run.1)

-- one step more
pub run_more : (chart : Chart) (c : CentralState) (steps : List (List Entry)) (i : ℕ) (entries : List Entry) → i < length steps → entries ≡ get_or steps i entries
    → IsRunFrom chart c (drop i steps) → IsRunFrom chart c (entries ∷ drop (i + 1) steps)
run_more chart c steps i entries lt is run =
    subst (IsRunFrom chart c) (at_drop_more (λ (l : List (List Entry)). l) steps i entries lt ∙ ap (λ (x : List Entry). x ∷ drop (i + 1) steps) (sym is)) run

fired_more : (chart : Chart) (c : CentralState) (steps : List (List Entry)) (i : ℕ) (entries : List Entry) → i < length steps → entries ≡ get_or steps i entries
    → fired_along chart c (drop i steps) ≡ fired_in chart c entries ++ fired_along chart (next_state chart c entries) (drop (i + 1) steps)
fired_more chart c steps i entries lt is =
    at_drop_more (fired_along chart c) steps i entries lt ∙ ap (λ (x : List Entry). fired_along chart c (x ∷ drop (i + 1) steps)) (sym is)

pub counted_on : (chart : Chart) (c next : CentralState) (fired more : List TransId) (steps : List (List Entry)) (i : ℕ) (entries : List Entry) (total : ℕ)
    → i < length steps → entries ≡ get_or steps i entries → more ≡ (notes_of chart c entries).fired → next ≡ next_state chart c entries
    → length fired + length (fired_along chart c (drop i steps)) ≡ total → length (fired ++ more) + length (fired_along chart next (drop (i + 1) steps)) ≡ total
counted_on chart c next fired more steps i entries total lt is noted stepped before =
    let here : length more ≡ length (fired_in chart c entries) = ap length noted ∙ length-map (fired_in chart c entries) trans_id in
    let all : length (fired_along chart c (drop i steps)) ≡ length (fired_in chart c entries) + length (fired_along chart (next_state chart c entries) (drop (i + 1) steps)) =
    ap length (fired_more chart c steps i entries lt is) ∙ length-append (fired_in chart c entries) (fired_along chart (next_state chart c entries) (drop (i + 1) steps)) in
    let rest : length (fired_along chart next (drop (i + 1) steps)) ≡ length (fired_along chart (next_state chart c entries) (drop (i + 1) steps)) =
    ap (λ (x : CentralState). length (fired_along chart x (drop (i + 1) steps))) stepped in
    omega (arith, length-append fired more, here, all, rest, before)

-- behind the last step all were counted
pub all_counted : (chart : Chart) (c : CentralState) (n : ℕ) (steps : List (List Entry)) (i total : ℕ) → length steps ≤ i → n + length (fired_along chart c (drop i steps)) ≡ total → n ≡ total
all_counted chart c n steps i total past before =
    let none : length (fired_along chart c (drop i steps)) ≡ 0 = ap (λ (l : List (List Entry)). length (fired_along chart c l)) (drop_all i steps past) in
    omega (arith, before, none)
