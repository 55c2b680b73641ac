-- The counting machine's words are the histories'.
use Rattle.std.proofs.Common.{◌≡◌, ℕ, zero, suc, ◌+◌, ◌<◌, ◌≤◌, ◌==◌, ◌||◌, ◌&&◌, not, cond, Bool, true, false, List, [], ◌∷◌, ◌++◌, map, filter, flat_map, length, take, drop, get_or, Option, Some, None, Result, Ok, Err, unwrap_or, slice_get, inl, inr, refl, sym, ap, ap₂, ◌∙◌, subst, arith, eq-eqb, true≢false}
use Rattle.std.specs.Prelude.{option_map}
use Rattle.std.specs.List.{sum, range_with_len, list_any, enumerate_from}
use Rattle.std.proofs.lemmas.Option.{unwrap_or-slice_get}
use Rattle.std.proofs.lemmas.List.Folds.{list_any-append}
use Rattle.wf_model.specs.declared.ids.ActId.{ActId}
use Rattle.wf_model.specs.declared.value.Val.{Val}
use Rattle.wf_model.specs.declared.chart.Chart.{Chart}
use Rattle.wf_model.specs.declared.outer.Output.{Output}
use Rattle.wf_model.specs.declared.outer.Outer.{Outer}
use Rattle.wf_model.specs.declared.outer.Outer.TheVariants.{Happen, Complete}
use Rattle.wf_model.specs.declared.outer.OuterFault.{OuterFault}
use Rattle.wf_model.specs.declared.outer.OuterFault.TheVariants.{WrongUnit, NoItem, AlreadyDone, WrongOutput}
use Rattle.wf_model.specs.declared.outer.Entry.{Entry}
use Rattle.wf_parts.specs.declared.data.Component.{Component}
use Rattle.wf_model.specs.Tree.{all_states}
use Rattle.wf_semantics.specs.Configuration.{is_in}
use Rattle.wf_semantics.specs.Items.{Item, item_at}
use Rattle.wf_semantics.specs.Run.{CentralState, central_run}
use Rattle.wf_semantics.specs.Admission.{is_act_at, is_of, is_closed, completes, is_pending, are_outputs_of, may_be_admitted}
use Rattle.wf_model.proofs.Bools.{or_left, any_map, and_true}
use Rattle.wf_semantics.proofs.Lists.{range_mem, filter_mem, filter_agree}
use Rattle.wf_semantics.proofs.Facts.{chart_of}
use Rattle.wf_semantics.proofs.Runs.{run_configuration}
use Rattle.wf_runs.specs.Completions.{is_completed}
use Rattle.wf_runs.proofs.Completed.{closed_is_completed}
use Rattle.wf_parts.specs.Components.{component_of}
use Rattle.wf_parts.specs.Known.{is_state_of, knows_state, knows_var}
use Rattle.wf_parts.specs.Parts.{part_of}
use Rattle.wf_views.specs.Knowledge.{known_to}
use Rattle.wf_views.specs.Views.{View, is_inside}
use Rattle.wf_views.specs.OwnSteps.{own_update}
use Rattle.wf_views.proofs.Lists.{map_map, map_agree}
use Rattle.wf_views.proofs.Listing.{part_states}
use Rattle.wf_lockstep.specs.Shares.{entries_at as step_entries, state_after, share_from}
use Rattle.wf_lockstep.specs.Shown.{shown}
use Rattle.wf_lockstep.proofs.Numbered.{at_number, numbered_at, filter_map_swap, filter_filter, flat_agree}
use Rattle.wf_lockstep.proofs.Sight.{var_at, value_at, vars_of_view, inside_known}
use Rattle.wf_lockstep.proofs.OwnShares.{own_is_share}
use Rattle.wf_lockstep.proofs.LockHolds.{run_stored}
use Rattle.wf_machine.specs.declared.admission.Admission as of
use Rattle.wf_machine.specs.Server.{sealed_at, outers_sealed}
use Rattle.wf_machine.specs.Machine.{CountingMachine, server, entry_of, entries_at, central_at}
use Rattle.wf_machine.specs.Sights.{states_seen, vars_seen, output, central_of, sight_of, is_done, item_seen, items_of}
use Rattle.wf_machine.specs.Lines.{lets}
use Rattle.wf_machine.proofs.Stays.{sealed_number}
use Rattle.wf_histories.specs.Histories.{Admission, History, seals, taken, sealed_by, local, local_update}
use Rattle.wf_histories.specs.Agreement.{least_taken, merged_entries, entry}
use Rattle.wf_histories.specs.Follows.{item_acts, is_item, sealed_before}
use Rattle.wf_histories.specs.Laws.{merged_of, AreLean, IsCentral}
use Rattle.wf_histories.proofs.Bridge.{unit_of_part}
use Rattle.wf_histories.proofs.MergedList.{at_merged, merged_long}
use Rattle.wf_histories.proofs.Items.{own_act}
use Rattle.wf_histories.proofs.Lets.{run_upto, completed_by, come_far, central_law}
use Rattle.wf_worlds.specs.Admitting.{are_own_outputs, may_admit, outers, lets_in}
use Rattle.wf_bridge.specs.Bridging.{in_history, CountsOf, EntriesSame, CentralSame, LetsSame, node_sight, node_items, SightSame, ItemsSame, LetterSame}
use Rattle.wf_worlds.proofs.PartRule.{own_event, own_outputs}
use Rattle.wf_worlds.proofs.Growing.{sealed_first, split_outers}

-- LISTS

take_map : {A B : Type 0} (f : A → B) (k : ℕ) (xs : List A) → take k (map f xs) ≡ map f (take k xs)
take_map f zero xs = refl
take_map f (suc k) [] = refl
take_map {B = B} f (suc k) (x ∷ xs) = ap (λ (l : List B). f x ∷ l) (take_map f k xs)

drop_map : {A B : Type 0} (f : A → B) (k : ℕ) (xs : List A) → drop k (map f xs) ≡ map f (drop k xs)
drop_map f zero xs = refl
drop_map f (suc k) [] = refl
drop_map f (suc k) (x ∷ xs) = drop_map f k xs

take_range : (a k n : ℕ) → k ≤ n → take k (range_with_len a n) ≡ range_with_len a k
take_range a zero n le = refl
take_range a (suc k) zero le = absurd (omega (arith, le))
take_range a (suc k) (suc n) le = ap (λ (l : List ℕ). a ∷ l) (take_range (a + 1) k n (omega (arith, le)))

empty : (h : History) (k : ℕ) → list_any (completes k) (sealed_before h 0) ≡ false
unfolding sealed_before
empty h k = refl

-- ENTRIES AND THE CENTRAL RUN

module _ (m : CountingMachine) (n : ℕ) (h : ℕ → History) (c : CountsOf m n h) where
  pub outers_same : (u : ℕ) → u < n → (j : ℕ) → outers_sealed (server m u).admissions (server m u).sealed j ≡ sealed_by (h u) j
  unfolding sealed_by
  outers_same u lt zero = refl
  outers_same u lt (suc i) =
      let ss : List ℕ = (server m u).sealed in
      let xs : List of.Admission = (server m u).admissions in
      ap (λ (k : ℕ). map (λ a. a.outer) (take k (drop (sum (take i ss)) xs))) (sealed_number ss i)
      ∙ sym (map_map (λ (a : Admission). a.outer) in_history (take (get_or ss i 0) (drop (sum (take i ss)) xs)))
      ∙ ap (map (λ (a : Admission). a.outer)) (sym (take_map in_history (get_or ss i 0) (drop (sum (take i ss)) xs)) ∙ ap (take (get_or ss i 0)) (sym (drop_map in_history (sum (take i ss)) xs)))
      ∙ sym (ap₂ (λ (ss : List ℕ) (xs : List Admission). map (λ a. a.outer) (take (get_or ss i 0) (drop (sum (take i ss)) xs))) (c.sealed u lt) (c.admissions u lt))

  pub entries_are : (k : ℕ) → entries_at m k ≡ merged_entries n h k
  unfolding entries_at
  entries_are zero = refl
  entries_are (suc zero) = refl
  entries_are (suc (suc j)) =
      ap (λ (k : ℕ). flat_map (λ u. map (entry_of u) (outers_sealed (server m u).admissions (server m u).sealed j)) (range_with_len 0 k)) c.units
      ∙ flat_agree (λ u. map (entry_of u) (outers_sealed (server m u).admissions (server m u).sealed j)) (λ u. map (entry u) (sealed_by (h u) j)) (range_with_len 0 n) (λ u mem.
      let r = (range_mem 0 n u mem).1 in ap (map (entry u)) (outers_same u (omega (arith, r)) j))

  pub outers_are : (u : ℕ) → u < n → outers (h u).admissions ≡ map (λ a. a.outer) (server m u).admissions
  outers_are u lt = ap outers (c.admissions u lt) ∙ map_map (λ (a : Admission). a.outer) in_history (server m u).admissions

  pub taken_is : (u : ℕ) → u < n → Rattle.wf_machine.specs.Server.taken (server m u) ≡ taken (h u)
  taken_is u lt = ap (λ (l : List ℕ). length l) (sym (c.sealed u lt))

pub entries_same : EntriesSame
entries_same m n h k c = entries_are m n h c k

pub central_same : CentralSame
unfolding central_at
central_same chart m h k c le =
    let n : ℕ = length chart.units in
    ap (central_run chart)
    (map_agree (entries_at m) (merged_entries n h) (range_with_len 1 k) (λ i mem. entries_are m n h c i)
    ∙ ap (map (merged_entries n h)) (sym (take_range 1 k (least_taken n h + 2) le))
    ∙ sym (take_map (merged_entries n h) k (range_with_len 1 (least_taken n h + 2))))

module _ (chart : Chart) (m : CountingMachine) (h : ℕ → History) (u : ℕ) (are : AreLean chart h) (c : CountsOf m (length chart.units) h) (lt : u < length chart.units) where
  abbrev n : ℕ
  n = length chart.units

  abbrev central : CentralState
  central = state_after chart (merged_of chart h) (taken (h u))

  is : IsCentral chart h
  is = central_law chart h are

  central_here : central_of chart m u ≡ state_after chart (merged_of chart h) (taken (h u))
  central_here =
      ap (central_at chart m) (taken_is m n h c u lt)
      ∙ central_same chart m h (taken (h u)) c (let a = is.near u lt in omega (arith, a))

  -- ITEMS

  items_are : map (λ x. x.act) (central.items u) ≡ item_acts (part_of chart u) (h u) (taken (h u))
  items_are = is.items u (taken (h u)) lt (omega arith)

  of_item : (xs : List Item) (k a : ℕ) → is_of a (item_at xs k) ≡ is_item (map (λ x. x.act) xs) k a
  of_item xs zero a = refl
  of_item [] (suc k) a = refl
  of_item (x ∷ xs) (suc zero) a = refl
  of_item (x ∷ xs) (suc (suc k)) a = of_item xs (suc k) a

  -- what is closed is completed by an admission
  closed_in : (k : ℕ) → is_closed (item_at (central.items u) k) ≡ true → list_any (completes k) (outers (h u).admissions) ≡ true
  closed_in k shut = go (taken (h u)) refl
    where
      before : (j : ℕ) → j ≤ taken (h u) → list_any (completes k) (sealed_before (h u) (suc j)) ≡ true → list_any (completes k) (outers (h u).admissions) ≡ true
      before j le q =
          let s = sum (take j (seals (h u))) in
          ap (list_any (completes k)) (split_outers s (h u).admissions) ∙ list_any-append (completes k) (outers (take s (h u).admissions)) (outers (drop s (h u).admissions))
          ∙ or_left (list_any (completes k) (outers (take s (h u).admissions))) (list_any (completes k) (outers (drop s (h u).admissions))) (ap (list_any (completes k)) (sym (sealed_first (h u) j le)) ∙ q)

      run : (t : ℕ) → t ≡ taken (h u) → is_completed (take t (merged_of chart h)) u k ≡ true
      run t e =
          let a = is.near u lt in
          ap (λ (i : ℕ). is_completed (take i (merged_of chart h)) u k) e
          ∙ sym (closed_is_completed chart (take (taken (h u)) (merged_of chart h)) u k (run_upto chart h are (taken (h u)) (let l = merged_long n h in omega (arith, l, a)) (come_far chart h are (taken (h u)) (omega (arith, a)))))
          ∙ shut

      none_before : (hh : History) → list_any (completes k) (sealed_before hh 0) ≡ true → list_any (completes k) (outers (h u).admissions) ≡ true
      none_before hh q = absurd (true≢false (sym q ∙ nothing))
        where
          nothing : list_any (completes k) (sealed_before hh 0) ≡ false
          nothing = empty hh k

      go : (t : ℕ) → t ≡ taken (h u) → list_any (completes k) (outers (h u).admissions) ≡ true
      go zero e = absurd (true≢false (sym (run zero e)))
      go (suc zero) e = none_before (h u) (sym (completed_by chart h are u k lt 0 (omega arith)) ∙ run (suc zero) e)
      go (suc (suc j)) e = before j (omega (arith, e)) (sym (completed_by chart h are u k lt (suc j) (let a = is.near u lt in omega (arith, a, e))) ∙ run (suc (suc j)) e)

  pending_is : (k : ℕ) → is_pending (map (λ a. entry_of u a.outer) (server m u).admissions) u k ≡ list_any (completes k) (outers (h u).admissions)
  pending_is k = go (server m u).admissions ∙ ap (list_any (completes k)) (sym (outers_are m n h c u lt))
    where
      go : (xs : List of.Admission) → is_pending (map (λ a. entry_of u a.outer) xs) u k ≡ list_any (completes k) (map (λ a. a.outer) xs)
      go [] = refl
      go (x ∷ xs) = ap₂ (λ (a b : Bool). (a && completes k x.outer) || b) (eq-eqb u u refl) (go xs)

  or_absorbs : (a b : Bool) → (a ≡ true → b ≡ true) → (a || b) ≡ b
  or_absorbs true b f = sym (f refl)
  or_absorbs false b f = refl

  abbrev answer : Bool → Bool → Bool → Bool → Result (Unit {0}) OuterFault
  answer here there shut wanted = cond (not here) (Err WrongUnit) (cond (not there) (Err NoItem) (cond shut (Err AlreadyDone) (cond (not wanted) (Err WrongOutput) (Ok tt))))

  wanted_same : (here there shut wanted wanted' : Bool) → (here ≡ true → wanted ≡ wanted') → answer here there shut wanted ≡ answer here there shut wanted'
  wanted_same true there shut wanted wanted' f = ap (answer true there shut) (f refl)
  wanted_same false there shut wanted wanted' f = refl

  lets_are : (o : Outer) → may_be_admitted chart central.items (map (λ a. entry_of u a.outer) (server m u).admissions) u o ≡ lets_in (part_of chart u) (h u) o
  unfolding may_be_admitted may_admit
  lets_are (Happen e) = ap (λ (b : Bool). cond b (Ok tt) (Err WrongUnit)) (sym (own_event chart u e.0))
  lets_are (Complete k a os) =
      ap₂ (λ (p q : Bool). answer (is_act_at chart u a.0) p q (are_outputs_of chart a.0 os))
      (of_item (central.items u) k a.0 ∙ ap (λ (acts : List ActId). is_item acts k a.0) items_are)
      (ap (λ (b : Bool). is_closed (item_at (central.items u) k) || b) (pending_is k) ∙ or_absorbs (is_closed (item_at (central.items u) k)) (list_any (completes k) (outers (h u).admissions)) (closed_in k))
      ∙ wanted_same (is_act_at chart u a.0) (is_item (item_acts (part_of chart u) (h u) (taken (h u))) k a.0) (list_any (completes k) (outers (h u).admissions)) (are_outputs_of chart a.0 os) (are_own_outputs (part_of chart u) a.0 os) (λ at. sym (own_outputs chart u are.accepted a.0 os at))
      ∙ ap (λ (b : Bool). answer b (is_item (item_acts (part_of chart u) (h u) (taken (h u))) k a.0) (list_any (completes k) (outers (h u).admissions)) (are_own_outputs (part_of chart u) a.0 os)) (sym (own_act chart u a.0))

  pub lets_here : (o : Outer) → lets chart m u o ≡ lets_in (part_of chart u) (h u) o
  lets_here o = ap (λ (s : CentralState). may_be_admitted chart s.items (map (λ a. entry_of u a.outer) (server m u).admissions) u o) central_here ∙ lets_are o

  -- SIGHTS

  abbrev next_entries : List Entry
  next_entries = step_entries (merged_of chart h) (suc (taken (h u)))

  view_is : local (part_of chart u) (h u) (taken (h u)) ≡ shown (part_of chart u) central next_entries
  view_is = is.shows u (taken (h u)) lt (omega arith)

  own_known : (z : ℕ) → z < length chart.states → is_state_of chart u z ≡ true → (known_to (part_of chart u)).states z ≡ true
  own_known z l own =
      part_states chart u z
      ∙ and_true (Rattle.std.proofs.Common.nat_lt z (length chart.states)) (knows_state chart u z) (Rattle.std.proofs.Common.lt-ltb z (length chart.states) l)
      (or_left (is_state_of chart u z) (Rattle.wf_parts.specs.Known.watches_state chart u z) own)

  states_same : states_seen chart u central ≡ map (λ (c : Component). c.state) (filter (λ c. is_inside (shown (part_of chart u) central next_entries) c.state.0) (part_of chart u).components)
  unfolding part_of
  states_same =
      let own : List ℕ = filter (is_state_of chart u) (all_states chart) in
      let inside : ℕ → Bool = λ z. is_inside (shown (part_of chart u) central next_entries) z in
      ap (map Rattle.wf_model.specs.Ids.state_id)
      (filter_agree (λ z. is_state_of chart u z && is_in z central.configuration) (λ z. is_in z central.configuration && is_state_of chart u z) (all_states chart) (λ z mem. swap (is_state_of chart u z) (is_in z central.configuration))
      ∙ sym (filter_filter (λ z. is_in z central.configuration) (is_state_of chart u) (all_states chart))
      ∙ filter_agree (λ z. is_in z central.configuration) inside own (λ z mem.
      let f = filter_mem (is_state_of chart u) (all_states chart) z mem in
      let r = (range_mem 0 (length chart.states) z f.0).1 in
      sym (inside_known chart u central next_entries z (own_known z (omega (arith, r)) f.1))))
      ∙ sym (map_map (λ (c : Component). c.state) (component_of chart) (filter inside own))
      ∙ ap (map (λ (c : Component). c.state)) (sym (filter_map_swap (component_of chart) (λ c. inside c.state.0) own))
    where
      swap : (a b : Bool) → (a && b) ≡ (b && a)
      swap true true = refl
      swap true false = refl
      swap false true = refl
      swap false false = refl

  abbrev no_output : ℕ → Output
  no_output x = record { var = record { 0 = x }; val = (var_at chart u x).first }

  vars_same : vars_seen chart u central ≡ (shown (part_of chart u) central next_entries).vars
  vars_same =
      numbered_at output no_output (knows_var chart u) central.store
      ∙ ap (λ (k : ℕ). map (at_number output no_output central.store) (filter (knows_var chart u) (range_with_len 0 k))) (run_stored chart (take (taken (h u)) (merged_of chart h)))
      ∙ map_agree (at_number output no_output central.store) (value_at chart u central next_entries) (filter (knows_var chart u) (range_with_len 0 (length chart.vars))) (λ x mem. at x)
      ∙ sym (vars_of_view chart u central next_entries)
    where
      by : (x : ℕ) (o : Option Val) → unwrap_or (option_map (λ v. output (x, v)) o) (no_output x) ≡ record { var = record { 0 = x }; val = unwrap_or o (var_at chart u x).first }
      by x None = refl
      by x (Some v) = refl

      at : (x : ℕ) → at_number output no_output central.store x ≡ value_at chart u central next_entries x
      at x = by x (slice_get central.store x) ∙ ap (λ (v : Val). record { var = record { 0 = x }; val = v }) (unwrap_or-slice_get central.store x (var_at chart u x).first)

  length_map : {A B : Type 0} (f : A → B) (xs : List A) → length (map f xs) ≡ length xs
  length_map f [] = refl
  length_map f (x ∷ xs) = ap suc (length_map f xs)

  pub sight_here : sight_of chart m u ≡ node_sight (part_of chart u) (h u)
  unfolding sight_of
  sight_here =
      let states = ap (states_seen chart u) central_here ∙ states_same ∙ ap (λ (view : View). map (λ (c : Component). c.state) (filter (λ c. is_inside view c.state.0) (part_of chart u).components)) (sym view_is) in
      let vars = ap (vars_seen chart u) central_here ∙ vars_same ∙ ap (λ (view : View). view.vars) (sym view_is) in
      let count : length (server m u).admissions ≡ length (h u).admissions = sym (length_map in_history (server m u).admissions) ∙ ap (λ (l : List Admission). length l) (sym (c.admissions u lt)) in
      let unit : record { 0 = u } ≡ (part_of chart u).unit = ap (λ (k : ℕ). record { 0 = k }) (sym (unit_of_part chart u)) in
      λ i. record { unit = unit i; taken = taken_is m n h c u lt i; admitted = count i; states = states i; vars = vars i }

  -- LISTS OF ITEMS

  items_seen : (xs : List Item) (k : ℕ) → map (item_seen (server m u).admissions) (enumerate_from k xs) ≡ map (λ x. (x.1, x.0, list_any (completes x.0) (outers (h u).admissions))) (enumerate_from k (map (λ x. x.act) xs))
  items_seen [] k = refl
  items_seen (x ∷ xs) k = ap₂ (λ (b : Bool) (l : List (ActId × ℕ × Bool)). (x.act, k, b) ∷ l) (done k) (items_seen xs (k + 1))
    where
      done : (k : ℕ) → is_done (server m u).admissions k ≡ list_any (completes k) (outers (h u).admissions)
      done k = sym (any_map (completes k) (λ (a : of.Admission). a.outer) (server m u).admissions) ∙ ap (list_any (completes k)) (sym (outers_are m n h c u lt))

  pub items_here : items_of chart m u ≡ node_items (part_of chart u) (h u)
  unfolding items_of
  items_here =
      ap (λ (s : CentralState). map (item_seen (server m u).admissions) (enumerate_from 1 (s.items u))) central_here
      ∙ items_seen (central.items u) 1
      ∙ ap (λ (acts : List ActId). map (λ x. (x.1, x.0, list_any (completes x.0) (outers (h u).admissions))) (enumerate_from 1 acts)) items_are

  -- UPDATES

  pub letter_here : (j : ℕ) → j ≤ taken (h u) → local_update (part_of chart u) (h u) (suc j) ≡ share_from chart (central_at chart m j) (entries_at m (suc j)) u (suc j) (outers_sealed (server m u).admissions (server m u).sealed j)
  letter_here j le =
      let a = is.near u lt in
      let steps : List (List Entry) = merged_of chart h in
      ap (λ (view : View). own_update (part_of chart u) (suc j) view (sealed_by (h u) j)) (is.shows u j lt le)
      ∙ own_is_share chart are.accepted u (state_after chart steps j) (step_entries steps (suc j)) (run_configuration chart (chart_of chart are.accepted) (take j steps)) (run_stored chart (take j steps)) (come_far chart h are (suc j) (omega (arith, a, le)) j (omega arith)) (suc j) (sealed_by (h u) j)
      ∙ ap₂ (λ (s : CentralState) (es : List Entry). share_from chart s es u (suc j) (sealed_by (h u) j)) (sym (central_same chart m h j c (omega (arith, a, le)))) (at_merged n h (suc j) (omega (arith, a, le)) ∙ sym (entries_are m n h c (suc j)))
      ∙ ap (share_from chart (central_at chart m j) (entries_at m (suc j)) u (suc j)) (sym (outers_same m n h c u lt j))

pub lets_same : LetsSame
lets_same chart m h u o are c lt = lets_here chart m h u are c lt o

pub sight_same : SightSame
sight_same chart m h u are c lt = sight_here chart m h u are c lt

pub items_same : ItemsSame
items_same chart m h u are c lt = items_here chart m h u are c lt

pub letter_same : LetterSame
letter_same chart m h u j are c lt le = letter_here chart m h u are c lt j le
