-- Where the units' histories follow and agree, the merged list is a run; and so the central law.
use Rattle.std.proofs.Common.{◌≡◌, ℕ, zero, suc, ◌+◌, ◌<◌, ◌≤◌, ◌==◌, ◌||◌, ◌⊎◌, Bool, true, false, List, [], ◌∷◌, ◌++◌, map, take, get_or, length, slice_get, inl, inr, refl, sym, ap, ap₂, ◌∙◌, subst, arith, true≢false}
use Rattle.std.specs.List.{list_any, list_all, range_with_len}
use Rattle.std.proofs.Math.Seq.{take-suc}
use Rattle.std.proofs.lemmas.List.Folds.{list_any-append}
use Rattle.wf_model.specs.declared.ids.ActId.{ActId}
use Rattle.wf_model.specs.declared.chart.Chart.{Chart}
use Rattle.wf_model.specs.declared.outer.Outer.{Outer}
use Rattle.wf_model.specs.declared.outer.Outer.TheVariants.{Happen, Complete}
use Rattle.wf_model.specs.declared.outer.Entry.{Entry}
use Rattle.wf_semantics.specs.Run.{CentralState, first_state, central_run}
use Rattle.wf_semantics.specs.Admission.{completes, is_pending, may_come}
use Rattle.wf_model.proofs.Bools.{any_map, any_filter, and_both}
use Rattle.wf_semantics.proofs.Children.{lt_or_ge}
use Rattle.wf_runs.specs.Runs.{IsRun}
use Rattle.wf_runs.specs.Completions.{is_completed}
use Rattle.wf_runs.proofs.Parts.{run_from_parts}
use Rattle.wf_runs.proofs.Completed.{closed_is_completed}
use Rattle.wf_parts.specs.Parts.{part_of}
use Rattle.wf_lockstep.specs.Shares.{entries_at, entries_to, outers_to, state_after}
use Rattle.wf_lockstep.proofs.LockHolds.{run_of_comes}
use Rattle.wf_histories.specs.Histories.{History, taken, sealed_by}
use Rattle.wf_histories.specs.Agreement.{lean, least_taken}
use Rattle.wf_histories.specs.Follows.{is_act, is_item, is_there, are_first, sealed_before}
use Rattle.wf_histories.specs.Laws.{merged_of, AreLean, CentralLaw, Isolation, AgreeByLockstep}
use Rattle.wf_histories.proofs.Bridge.{unit_of_part, absorbs_lean, agree_lock, lock_agree}
use Rattle.wf_histories.proofs.MergedList.{least_taken_below, merged_long, at_merged, merged_first, outers_own}
use Rattle.wf_histories.proofs.Centrals.{near, Before, shows_upto, lock_shares, local_update_is, isolation_from}
use Rattle.wf_histories.proofs.Items.{acts_at, acts_next, acts_are}
use Rattle.wf_histories.proofs.Coming.{first_parts, Ready, units_come}

-- more items, and what was there is there
act_stays : (xs ys : List ActId) (n a : ℕ) → is_act a (slice_get xs n) ≡ true → is_act a (slice_get (xs ++ ys) n) ≡ true
act_stays [] ys n a h = absurd (true≢false (sym h))
act_stays (x ∷ xs) ys zero a h = h
act_stays (x ∷ xs) ys (suc n) a h = act_stays xs ys n a h

item_stays : (xs ys : List ActId) (n a : ℕ) → is_item xs n a ≡ true → is_item (xs ++ ys) n a ≡ true
item_stays xs ys zero a h = h
item_stays xs ys (suc n) a h = act_stays xs ys n a h

there_stays : (xs ys : List ActId) (os : List Outer) → list_all (is_there xs) os ≡ true → list_all (is_there (xs ++ ys)) os ≡ true
there_stays xs ys [] h = refl
there_stays xs ys (o ∷ os) h =
    let both = and_both (is_there xs o) (list_all (is_there xs) os) h in
    Rattle.wf_model.proofs.Bools.and_true (is_there (xs ++ ys) o) (list_all (is_there (xs ++ ys)) os) (one o both.0) (there_stays xs ys os both.1)
  where
    one : (o : Outer) → is_there xs o ≡ true → is_there (xs ++ ys) o ≡ true
    one (Happen e) h = refl
    one (Complete n a outputs) h = item_stays xs ys n a.0 h

-- of what was sealed, the first parts
first_upto : (h : History) (m i : ℕ) → i ≤ m → are_first [] (sealed_before h m) ≡ true → are_first [] (sealed_before h i) ≡ true
unfolding sealed_before
first_upto h zero i le f = let e : i ≡ 0 = omega arith in subst (λ (x : ℕ). are_first [] (sealed_before h x) ≡ true) (sym e) f
first_upto h (suc m) i le f = go (lt_or_ge m i) (λ k. first_upto h m i k (and_both (are_first [] (sealed_before h m)) (are_first (sealed_before h m) (sealed_by h m)) (sym (first_parts [] (sealed_before h m) (sealed_by h m)) ∙ f)).0)
  where
    go : (m < i) ⊎ (i ≤ m) → (i ≤ m → are_first [] (sealed_before h i) ≡ true) → are_first [] (sealed_before h i) ≡ true
    go c ih = elim c [
      | inl k ↦ let e : i ≡ suc m = omega arith in subst (λ (x : ℕ). are_first [] (sealed_before h x) ≡ true) (sym e) f
      | inr k ↦ ih k
    ]

first_at : (h : History) (m j : ℕ) → suc j ≤ m → are_first [] (sealed_before h m) ≡ true → are_first (sealed_before h j) (sealed_by h j) ≡ true
unfolding sealed_before
first_at h m j le f = (and_both (are_first [] (sealed_before h j)) (are_first (sealed_before h j) (sealed_by h j)) (sym (first_parts [] (sealed_before h j) (sealed_by h j)) ∙ first_upto h m (suc j) le f)).1

-- what is pending of a unit, by its outers
pending_by : (u n : ℕ) (es : List Entry) → is_pending es u n ≡ list_any (completes n) (outers_to u es)
pending_by u n es = sym (any_map (completes n) (λ (x : Entry). x.outer) (entries_to u es) ∙ any_filter (λ x. completes n x.outer) (λ x. x.unit.0 == u) es)

module _ (chart : Chart) (h : ℕ → History) (are : AreLean chart h) where
  abbrev n : ℕ
  n = length chart.units

  abbrev steps : List (List Entry)
  steps = merged_of chart h

  long : length (merged_of chart h) ≡ least_taken (length chart.units) h + 2
  long = merged_long (length chart.units) h

  -- the steps so far are a run
  pub run_upto : (k : ℕ) → k ≤ length steps → Before chart h are k → IsRun chart (take k steps)
  run_upto zero le before = tt
  run_upto (suc k) le before = subst (IsRun chart) (sym (take-suc steps k [] (omega arith)))
      (run_from_parts chart (first_state chart) (take k steps) (get_or steps k [] ∷ []) (run_upto k (omega arith) (λ i l. before i (omega arith))) (before k (omega arith), tt))

  -- what they complete of unit v is what its Turns sealed
  pub completed_by : (v m : ℕ) → v < n → (j : ℕ) → j ≤ least_taken n h + 1 → is_completed (take (suc j) steps) v m ≡ list_any (completes m) (sealed_before (h v) j)
  unfolding sealed_before
  completed_by v m lt zero le =
      ap (λ (l : List (List Entry)). is_completed l v m) (take-suc steps 0 [] (omega (arith, long)))
      ∙ ap (λ (es : List Entry). is_pending es v m || false) (merged_first n h)
  completed_by v m lt (suc j) le =
      ap (λ (l : List (List Entry)). is_completed l v m) (take-suc steps (suc j) [] (omega (arith, long)))
      ∙ list_any-append (λ es. is_pending es v m) (take (suc j) steps) (get_or steps (suc j) [] ∷ [])
      ∙ ap₂ (λ (a b : Bool). a || (b || false)) (completed_by v m lt j (omega arith))
      (pending_by v m (entries_at steps (suc (suc j))) ∙ ap (list_any (completes m)) (ap (outers_to v) (at_merged n h (suc (suc j)) (omega arith)) ∙ outers_own n h v j lt))
      ∙ or_none (list_any (completes m) (sealed_before (h v) j)) (list_any (completes m) (sealed_by (h v) j))
      ∙ sym (list_any-append (completes m) (sealed_before (h v) j) (sealed_by (h v) j))
    where
      or_none : (a b : Bool) → (a || (b || false)) ≡ (a || b)
      or_none true b = refl
      or_none false true = refl
      or_none false false = refl

  -- items grow, and what was there stays
  there_at : (v j : ℕ) (lt : v < n) → j ≤ least_taken n h → Before chart h are (suc j) → list_all (is_there (map (λ x. x.act) ((state_after chart steps (suc j)).items v))) (sealed_by (h v) j) ≡ true
  unfolding sealed_by
  there_at v zero lt le before = refl
  there_at v (suc i) lt le before =
      let f = are.follow v lt in
      let t : i < taken (h v) = omega (arith, least_taken_below n h v lt) in
      let first : list_all (is_there (acts_at chart h are v lt i)) (sealed_by (h v) (suc i)) ≡ true =
      subst (λ (acts : List ActId). list_all (is_there acts) (sealed_by (h v) (suc i)) ≡ true) (sym (acts_are chart h are v lt i (omega (arith, t)) (λ x l. before x (omega arith)))) (f.there i t) in
      let next : list_all (is_there (acts_at chart h are v lt (suc i))) (sealed_by (h v) (suc i)) ≡ true =
      subst (λ (acts : List ActId). list_all (is_there acts) (sealed_by (h v) (suc i)) ≡ true) (sym (acts_next chart h are v lt i (omega (arith, long)))) (there_stays (acts_at chart h are v lt i) (more v lt i) (sealed_by (h v) (suc i)) first) in
      subst (λ (acts : List ActId). list_all (is_there acts) (sealed_by (h v) (suc i)) ≡ true) (sym (acts_next chart h are v lt (suc i) (omega (arith, long)))) (there_stays (acts_at chart h are v lt (suc i)) (more v lt (suc i)) (sealed_by (h v) (suc i)) next)
    where
      more : (v : ℕ) → v < n → ℕ → List ActId
      more v lt i = map (λ s. s.act) (Rattle.std.specs.Prelude.filter (Rattle.wf_semantics.specs.Run.is_at chart v) (Rattle.wf_semantics.specs.Effects.starts_of chart (Rattle.wf_semantics.specs.Run.fired_in chart (state_after chart steps i) (entries_at steps (suc i)))))

  ready_at : (v j : ℕ) → v < n → j ≤ least_taken n h → Before chart h are (suc j) → Ready chart (state_after chart steps (suc j)) v (sealed_by (h v) j)
  ready_at v j lt le before = record {
    before = sealed_before (h v) j;
    closed = λ m. closed_is_completed chart (take (suc j) steps) v m (run_upto (suc j) (omega (arith, long)) before) ∙ completed_by v m lt j (omega arith);
    at_unit = (are.follow v lt).at_unit j;
    there = there_at v j lt le before;
    first = first_at (h v) (suc (taken (h v))) j (omega (arith, least_taken_below n h v lt)) (are.follow v lt).once;
  }

  comes_at : (k : ℕ) → k ≤ least_taken n h + 1 → Before chart h are k → may_come chart (state_after chart steps k).items (entries_at steps (suc k)) ≡ true
  comes_at zero le before = ap (may_come chart (state_after chart steps 0).items) (merged_first n h)
  comes_at (suc j) le before =
      ap (may_come chart (state_after chart steps (suc j)).items) (at_merged n h (suc (suc j)) (omega arith))
      ∙ units_come chart (state_after chart steps (suc j)) (λ v. sealed_by (h v) j) 0 n [] (λ v m l. refl) (λ v l. ready_at v j (omega arith) (omega arith) before)

  pub all_come : (k : ℕ) → k ≤ least_taken n h + 2 → Before chart h are k
  all_come zero le i lt = absurd (omega arith)
  all_come (suc k) le i lt = go (lt_or_ge i k) (λ q. all_come k (omega arith) i q) (comes_at k (omega arith) (λ x y. all_come k (omega arith) x y))
    where
      go : (i < k) ⊎ (k ≤ i) → (i < k → may_come chart (state_after chart steps i).items (entries_at steps (suc i)) ≡ true) → may_come chart (state_after chart steps k).items (entries_at steps (suc k)) ≡ true → may_come chart (state_after chart steps i).items (entries_at steps (suc i)) ≡ true
      go c ih here = elim c [
        | inl q ↦ ih q
        | inr q ↦ let e : k ≡ i = omega arith in subst (λ (x : ℕ). may_come chart (state_after chart steps x).items (entries_at steps (suc x)) ≡ true) e here
      ]

  pub come_far : (j : ℕ) → j ≤ least_taken n h + 2 → Before chart h are j
  come_far j le i lt = all_come (least_taken n h + 2) (omega arith) i (omega arith)

pub central_law : CentralLaw
central_law chart h are = record {
  run = run_of_comes chart (first_state chart) (merged_of chart h) (λ j lt. all_come chart h are (least_taken (length chart.units) h + 2) (omega arith) j (omega (arith, merged_long (length chart.units) h)));
  near = near chart h are;
  shows = λ u j lt le. shows_upto chart h are u j lt le (come_far chart h are j (omega (arith, near chart h are u lt)));
  shares = λ u j lt le. local_update_is chart h are u j lt (omega arith) ∙ lock_shares chart h are u j lt (omega (arith, near chart h are u lt)) (come_far chart h are (suc j) (omega (arith, near chart h are u lt)));
  items = λ u j lt le. acts_are chart h are u lt j le (come_far chart h are j (omega (arith, near chart h are u lt)));
}

pub isolation : Isolation
isolation = isolation_from central_law

pub agree_by_lockstep : AgreeByLockstep
agree_by_lockstep chart h follow =
    let absorbs = absorbs_lean chart (λ v. sealed_by (h v)) (λ v j lt. (follow v lt).at_unit j) in
    ((λ a. agree_lock (lean chart) (length chart.units) (part_of chart) h (unit_of_part chart) absorbs a), (λ a. lock_agree (lean chart) (length chart.units) (part_of chart) h (unit_of_part chart) absorbs a))
