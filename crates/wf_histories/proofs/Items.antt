-- A unit's items by its own history are those of the central run.
use Rattle.std.proofs.Common.{◌≡◌, ℕ, zero, suc, ◌+◌, ◌-◌, ◌<◌, ◌≤◌, ◌==◌, ◌&&◌, cond, Bool, true, false, List, [], ◌∷◌, ◌++◌, map, filter, flat_map, length, Option, inl, inr, refl, sym, ap, ap₂, ◌∙◌, arith, eqb-true, eq-eqb, true≢false}
use Rattle.std.specs.Prelude.{insert}
use Rattle.std.specs.Option.{option_map, option_map_or}
use Rattle.std.specs.List.{list_any, range_with_len}
use Rattle.std.proofs.lemmas.List.{map-append}
use Rattle.std.proofs.lemmas.List.Elements.{filter-append}
use Rattle.std.proofs.lemmas.List.Folds.{flat_map-map}
use Rattle.std.proofs.lemmas.Option.{slice_get_past}
use Rattle.wf_model.specs.Limits.{max_transitions}
use Rattle.wf_model.specs.declared.ids.ActId.{ActId}
use Rattle.wf_model.specs.declared.chart.Action.{Action}
use Rattle.wf_model.specs.declared.chart.Action.TheVariants.{Assign, Raise, Start}
use Rattle.wf_model.specs.declared.chart.Chart.{Chart}
use Rattle.wf_parts.specs.declared.data.KnownActivity.{KnownActivity}
use Rattle.wf_model.specs.declared.update.StartAt.{StartAt}
use Rattle.wf_model.specs.declared.update.Update.{Update}
use Rattle.wf_model.specs.Tree.{all_transitions}
use Rattle.wf_semantics.specs.Effects.{actions_of, starts_from, starts_of}
use Rattle.wf_semantics.specs.Items.{Item, new_item}
use Rattle.wf_semantics.specs.Flat.{fires}
use Rattle.wf_semantics.specs.Snapshot.{is_enabled}
use Rattle.wf_semantics.specs.Run.{CentralState, first_state, next_state, snapshot_of, fired_in, is_at, completions_at}
use Rattle.wf_semantics.specs.Admission.{is_act_at}
use Rattle.wf_model.proofs.Bools.{Mem, any_map, any_agree, any_filter, and_both, and_true, not_true, mem_any, any_mem, or_left, bool_iff}
use Rattle.wf_semantics.proofs.Lists.{range_mem}
use Rattle.wf_semantics.proofs.Children.{lt_or_ge}
use Rattle.wf_semantics.proofs.Facts.{chart_of}
use Rattle.wf_semantics.proofs.Runs.{step_fires, run_configuration}
use Rattle.wf_runs.proofs.Numbers.{closing_keeps_acts}
use Rattle.wf_parts.specs.Known.{knows_act, is_own}
use Rattle.wf_parts.specs.Parts.{part_of}
use Rattle.wf_views.specs.Knowledge.{known_to}
use Rattle.wf_views.specs.Relevant.{cut_update, relevant}
use Rattle.wf_views.proofs.Lists.{map_map, filter_within, filter_same}
use Rattle.wf_views.proofs.Listing.{relevant_is_known}
use Rattle.wf_lockstep.specs.Shares.{entries_at, state_after, share_from, share_of}
use Rattle.wf_lockstep.specs.Lock.{lock_view, lock_update}
use Rattle.wf_lockstep.proofs.Numbered.{filter_filter, flat_agree, numbers_mem, mem_numbers}
use Rattle.wf_lockstep.proofs.Cuts.{one_cut}
use Rattle.wf_lockstep.proofs.Sight.{act_at, act_numbers, acts_of_part, act_id, act_unit_at}
use Rattle.wf_lockstep.proofs.Writing.{flat_flat}
use Rattle.wf_lockstep.proofs.Owners.{owner, owner_below, own_by_owner}
use Rattle.wf_lockstep.proofs.Within.{own_within}
use Rattle.wf_lockstep.proofs.LockHolds.{state_next}
use Rattle.wf_histories.specs.Histories.{History, taken, inputs_at, sealed_by, local_update}
use Rattle.wf_histories.specs.Agreement.{lean, peers, least_taken}
use Rattle.wf_histories.specs.Follows.{is_own_act, by_transition, new_acts, item_acts}
use Rattle.wf_histories.specs.Laws.{merged_of, AreLean}
use Rattle.wf_histories.proofs.Bridge.{sent_to, sent_are, agree_lock, unit_of_part}
use Rattle.wf_histories.proofs.MergedList.{merged_long}
use Rattle.wf_histories.proofs.Centrals.{Before, near, absorbs, lock_shares, local_update_is}
use Rattle.wf_parts.specs.Peers.{peers_of}

-- THE STARTS OF ONE TRANSITION

block_of : (t s place : ℕ) (xs : List Action) → filter (λ x. x.trans.0 == t) (starts_from s place xs) ≡ cond (s == t) (starts_from s place xs) []
block_of t s place [] = none (s == t)
  where
    none : (b : Bool) → ◌≡◌ {A = List StartAt} [] (cond b [] [])
    none true = refl
    none false = refl
block_of t s place (Assign x value ∷ xs) = block_of t s (place + 1) xs
block_of t s place (Raise e ∷ xs) = block_of t s (place + 1) xs
block_of t s place (Start a ∷ xs) = go (s == t) (block_of t s (place + 1) xs)
  where
    go : (b : Bool) → filter (λ x. x.trans.0 == t) (starts_from s (place + 1) xs) ≡ cond b (starts_from s (place + 1) xs) [] →
        cond b (record { act = a; trans = record { 0 = s }; place = place } ∷ filter (λ x. x.trans.0 == t) (starts_from s (place + 1) xs)) (filter (λ x. x.trans.0 == t) (starts_from s (place + 1) xs))
        ≡ cond b (record { act = a; trans = record { 0 = s }; place = place } ∷ starts_from s (place + 1) xs) []
    go true ih = ap (λ (l : List StartAt). record { act = a; trans = record { 0 = s }; place = place } ∷ l) ih
    go false ih = ih

blocks_of : (chart : Chart) (t : ℕ) (ts : List ℕ) → filter (λ x. x.trans.0 == t) (starts_of chart ts) ≡ starts_of chart (filter (λ s. s == t) ts)
blocks_of chart t [] = refl
blocks_of chart t (s ∷ ts) =
    filter-append (λ x. x.trans.0 == t) (starts_from s 0 (actions_of chart s)) (starts_of chart ts)
    ∙ ap₂ (λ (a b : List StartAt). a ++ b) (block_of t s 0 (actions_of chart s)) (blocks_of chart t ts)
    ∙ go (s == t)
  where
    go : (b : Bool) → cond b (starts_from s 0 (actions_of chart s)) [] ++ starts_of chart (filter (λ s. s == t) ts) ≡ starts_of chart (cond b (s ∷ filter (λ s. s == t) ts) (filter (λ s. s == t) ts))
    go true = refl
    go false = refl

filter_flat : {A : Type 0} (p : A → Bool) (f : ℕ → List A) (ts : List ℕ) → filter p (flat_map f ts) ≡ flat_map (λ t. filter p (f t)) ts
filter_flat p f [] = refl
filter_flat {A} p f (t ∷ ts) = filter-append p (f t) (flat_map f ts) ∙ ap (λ (l : List A). filter p (f t) ++ l) (filter_flat p f ts)

filter_swap : {A : Type 0} (p q : A → Bool) (xs : List A) → filter p (filter q xs) ≡ filter q (filter p xs)
filter_swap p q xs = filter_filter p q xs ∙ filter_same (λ x. p x && q x) (λ x. q x && p x) (λ x. and_swap (p x) (q x)) xs ∙ sym (filter_filter q p xs)
  where
    and_swap : (a b : Bool) → (a && b) ≡ (b && a)
    and_swap true true = refl
    and_swap true false = refl
    and_swap false true = refl
    and_swap false false = refl

-- ascending numbers, taken one by one

none_of : (p : ℕ → Bool) (t a n : ℕ) → t < a → filter (λ x. x == t) (filter p (range_with_len a n)) ≡ []
none_of p t a zero lt = refl
none_of p t a (suc n) lt = go (p a) (none_of p t (a + 1) n (omega arith))
  where
    go : (b : Bool) → filter (λ x. x == t) (filter p (range_with_len (a + 1) n)) ≡ [] → filter (λ x. x == t) (cond b (a ∷ filter p (range_with_len (a + 1) n)) (filter p (range_with_len (a + 1) n))) ≡ []
    go true ih = ap (λ (b : Bool). cond b (a ∷ filter (λ x. x == t) (filter p (range_with_len (a + 1) n))) (filter (λ x. x == t) (filter p (range_with_len (a + 1) n)))) (not_true (a == t) (λ e. omega (arith, eqb-true a t e))) ∙ ih
    go false ih = ih

one_of : (p : ℕ → Bool) (t a n : ℕ) → a ≤ t → t < a + n → filter (λ x. x == t) (filter p (range_with_len a n)) ≡ cond (p t) (t ∷ []) []
one_of p t a zero l k = absurd (omega arith)
one_of p t a (suc n) l k = go (a == t) refl (p a) refl (λ ne. one_of p t (a + 1) n (omega (arith, ne)) (omega arith)) (λ e. none_of p t (a + 1) n (omega (arith, e)))
  where
    rest : List ℕ
    rest = filter p (range_with_len (a + 1) n)

    go : (b : Bool) → (a == t) ≡ b → (c : Bool) → p a ≡ c → ((a ≡ t → ⊥) → filter (λ x. x == t) rest ≡ cond (p t) (t ∷ []) []) → (a ≡ t → filter (λ x. x == t) rest ≡ []) →
        filter (λ x. x == t) (cond c (a ∷ rest) rest) ≡ cond (p t) (t ∷ []) []
    go true e true f ih none =
        let at = eqb-true a t e in
        ap (λ (b : Bool). cond b (a ∷ filter (λ x. x == t) rest) (filter (λ x. x == t) rest)) e ∙ ap₂ (λ (x : ℕ) (l : List ℕ). x ∷ l) at (none at)
        ∙ sym (ap (λ (b : Bool). cond b (t ∷ []) []) (ap p (sym at) ∙ f))
    go true e false f ih none = let at = eqb-true a t e in none at ∙ sym (ap (λ (b : Bool). cond b (t ∷ []) []) (ap p (sym at) ∙ f))
    go false e true f ih none = ap (λ (b : Bool). cond b (a ∷ filter (λ x. x == t) rest) (filter (λ x. x == t) rest)) e ∙ ih (λ q. true≢false (sym (eq-eqb a t q) ∙ e))
    go false e false f ih none = ih (λ q. true≢false (sym (eq-eqb a t q) ∙ e))

beyond_of : (p : ℕ → Bool) (t a n : ℕ) → a + n ≤ t → filter (λ x. x == t) (filter p (range_with_len a n)) ≡ []
beyond_of p t a zero l = refl
beyond_of p t a (suc n) l = go (p a) (beyond_of p t (a + 1) n (omega arith))
  where
    go : (b : Bool) → filter (λ x. x == t) (filter p (range_with_len (a + 1) n)) ≡ [] → filter (λ x. x == t) (cond b (a ∷ filter p (range_with_len (a + 1) n)) (filter p (range_with_len (a + 1) n))) ≡ []
    go true ih = ap (λ (b : Bool). cond b (a ∷ filter (λ x. x == t) (filter p (range_with_len (a + 1) n))) (filter (λ x. x == t) (filter p (range_with_len (a + 1) n)))) (not_true (a == t) (λ e. omega (arith, eqb-true a t e))) ∙ ih
    go false ih = ih

singles : (p : ℕ → Bool) (xs : List ℕ) → flat_map (λ t. cond (p t) (t ∷ []) []) xs ≡ filter p xs
singles p [] = refl
singles p (x ∷ xs) = go (p x) (singles p xs)
  where
    go : (b : Bool) → flat_map (λ t. cond (p t) (t ∷ []) []) xs ≡ filter p xs → cond b (x ∷ []) [] ++ flat_map (λ t. cond (p t) (t ∷ []) []) xs ≡ cond b (x ∷ filter p xs) (filter p xs)
    go true ih = ap (λ (l : List ℕ). x ∷ l) ih
    go false ih = ih

-- each number of a range, one by one, up to a bound that is no less
flat_range : {A : Type 0} (f : ℕ → List A) (a n k : ℕ) → ((t : ℕ) → a + n ≤ t → f t ≡ []) → flat_map f (range_with_len a (n + k)) ≡ flat_map f (range_with_len a n)
flat_range f a zero k h = let z : 0 + k ≡ k = omega arith in ap (λ (m : ℕ). flat_map f (range_with_len a m)) z ∙ none a k (λ t l. h t (omega arith))
  where
    none : (a k : ℕ) → ((t : ℕ) → a ≤ t → f t ≡ []) → flat_map f (range_with_len a k) ≡ []
    none a zero h = refl
    none a (suc k) h = rw (h a (omega arith)) (none (a + 1) k (λ t l. h t (omega arith)))
flat_range {A} f a (suc n) k h =
    let z : suc n + k ≡ suc (n + k) = omega arith in
    ap (λ (m : ℕ). flat_map f (range_with_len a m)) z ∙ ap (λ (l : List A). f a ++ l) (flat_range f (a + 1) n k (λ t l. h t (omega arith)))

module _ (chart : Chart) (own : StartAt → Bool) (key : ℕ → ℕ) (units : ℕ) (below : (t : ℕ) → key t < units) (p : ℕ → Bool) (n : ℕ) (few : n ≤ max_transitions) where
  abbrev fired_by : List ℕ
  fired_by = filter p (range_with_len 0 n)

  abbrev shares_of : List StartAt
  shares_of = flat_map (λ v. starts_of chart (filter (λ t. key t == v) fired_by)) (range_with_len 0 units)

  one_transition : (t : ℕ) → filter (λ s. s.trans.0 == t) (filter own shares_of) ≡ filter own (starts_of chart (filter (λ s. s == t) fired_by))
  one_transition t =
      filter_swap (λ s. s.trans.0 == t) own shares_of
      ∙ ap (filter own)
      (ap (filter (λ (s : StartAt). s.trans.0 == t)) (flat_flat (λ t. starts_from t 0 (actions_of chart t)) (λ v. filter (λ t. key t == v) fired_by) (range_with_len 0 units))
      ∙ blocks_of chart t (flat_map (λ v. filter (λ t. key t == v) fired_by) (range_with_len 0 units))
      ∙ ap (starts_of chart) (one_cut t key units fired_by (below t)))

  -- in order, what the units started is what the fired transitions started
  pub starts_in_order : by_transition (filter own shares_of) ≡ filter own (starts_of chart fired_by)
  starts_in_order =
      flat_agree (λ t. filter (λ s. s.trans.0 == t) (filter own shares_of)) (λ t. filter own (starts_of chart (filter (λ s. s == t) fired_by))) (range_with_len 0 max_transitions) (λ t m. one_transition t)
      ∙ more_none
      ∙ flat_agree (λ t. filter own (starts_of chart (filter (λ s. s == t) fired_by))) (λ t. filter own (starts_of chart (cond (p t) (t ∷ []) []))) (range_with_len 0 n)
      (λ t m. let r = range_mem 0 n t m in ap (λ (l : List ℕ). filter own (starts_of chart l)) (one_of p t 0 n (omega arith) (omega arith)))
      ∙ sym (filter_flat own (λ t. starts_of chart (cond (p t) (t ∷ []) [])) (range_with_len 0 n))
      ∙ ap (filter own) (flat_flat (λ t. starts_from t 0 (actions_of chart t)) (λ t. cond (p t) (t ∷ []) []) (range_with_len 0 n) ∙ ap (starts_of chart) (singles p (range_with_len 0 n)))
    where
      more_none : flat_map (λ t. filter own (starts_of chart (filter (λ s. s == t) fired_by))) (range_with_len 0 max_transitions) ≡ flat_map (λ t. filter own (starts_of chart (filter (λ s. s == t) fired_by))) (range_with_len 0 n)
      more_none =
          let more : max_transitions ≡ n + (max_transitions - n) = omega arith in
          ap (λ (m : ℕ). flat_map (λ t. filter own (starts_of chart (filter (λ s. s == t) fired_by))) (range_with_len 0 m)) more
          ∙ flat_range (λ t. filter own (starts_of chart (filter (λ s. s == t) fired_by))) 0 n (max_transitions - n)
          (λ t l. ap (λ (l : List ℕ). filter own (starts_of chart l)) (beyond_of p t 0 n l))

-- OWN ACTIVITIES

module _ (chart : Chart) (u : ℕ) where
  pub own_act : (a : ℕ) → is_own_act (part_of chart u) a ≡ is_act_at chart u a
  unfolding knows_act
  own_act a =
      ap₂ (λ (acts : List KnownActivity) (w : ℕ). list_any (λ known. (known.id.0 == a) && (known.unit.0 == w)) acts) (acts_of_part chart u) (unit_of_part chart u)
      ∙ any_map (λ (known : KnownActivity). (known.id.0 == a) && (known.unit.0 == u)) (act_at chart u) (act_numbers chart u)
      ∙ bool_iff (list_any test (act_numbers chart u)) (is_act_at chart u a) to from
    where
      test : ℕ → Bool
      test x = ((act_at chart u x).id.0 == a) && ((act_at chart u x).unit.0 == u)

      to : list_any test (act_numbers chart u) ≡ true → is_act_at chart u a ≡ true
      to h =
          let w = any_mem test (act_numbers chart u) h in
          let r = numbers_mem (knows_act chart u) (length chart.acts) w.0 w.1 in
          let both = and_both ((act_at chart u w.0).id.0 == a) ((act_at chart u w.0).unit.0 == u) w.2 in
          let same : w.0 ≡ a = ap (λ (i : ActId). i.0) (sym (act_id chart u w.0)) ∙ eqb-true (act_at chart u w.0).id.0 a both.0 in
          ap (is_act_at chart u) (sym same) ∙ ap (λ (o : Option ℕ). option_map_or (λ unit. unit == u) o false) (act_unit_at chart u w.0 r.0) ∙ both.1

      from : is_act_at chart u a ≡ true → list_any test (act_numbers chart u) ≡ true
      from h = elim (lt_or_ge a (length chart.acts)) [
        | inl lt ↦
            mem_any test a (act_numbers chart u) (mem_numbers (knows_act chart u) (length chart.acts) a lt (or_left (is_act_at chart u a) (Rattle.wf_parts.specs.Known.is_read chart u (Rattle.wf_parts.specs.Reads.reads_act a)) h))
            (and_true ((act_at chart u a).id.0 == a) ((act_at chart u a).unit.0 == u) (ap (λ (i : ActId). i.0 == a) (act_id chart u a) ∙ eq-eqb a a refl)
            (sym (ap (λ (o : Option ℕ). option_map_or (λ unit. unit == u) o false) (act_unit_at chart u a lt)) ∙ h))
        | inr ge ↦ absurd (true≢false (sym h ∙ ap (λ (o : Option ℕ). option_map_or (λ unit. unit == u) o false) (ap (option_map (λ act. act.unit.0)) (slice_get_past chart.acts a ge))))
      ]

  own_is_known : (a : ℕ) → is_own_act (part_of chart u) a ≡ true → (known_to (part_of chart u)).acts a ≡ true
  own_is_known a h = go (part_of chart u).acts h
    where
      go : (ks : List KnownActivity) → list_any (λ known. (known.id.0 == a) && (known.unit.0 == (part_of chart u).unit.0)) ks ≡ true → list_any (λ known. known.id.0 == a) ks ≡ true
      go [] h = h
      go (k ∷ ks) h = elim (Rattle.wf_model.proofs.Bools.or_cases ((k.id.0 == a) && (k.unit.0 == (part_of chart u).unit.0)) (list_any (λ known. (known.id.0 == a) && (known.unit.0 == (part_of chart u).unit.0)) ks) h) [
        | inl q ↦ or_left (k.id.0 == a) (list_any (λ known. known.id.0 == a) ks) (and_both (k.id.0 == a) (k.unit.0 == (part_of chart u).unit.0) q).0
        | inr q ↦ Rattle.wf_model.proofs.Bools.or_right (k.id.0 == a) (list_any (λ known. known.id.0 == a) ks) (go ks q)
      ]

-- A TURN'S NEW ITEMS

module _ (chart : Chart) (h : ℕ → History) (are : AreLean chart h) (u : ℕ) (lt_u : u < length chart.units) where
  abbrev own : StartAt → Bool
  own s = is_own_act (part_of chart u) s.act.0

  outers : ℕ → ℕ → List Rattle.wf_model.specs.declared.outer.Outer.Outer
  outers v = sealed_by (h v)

  abbrev made : ℕ → ℕ → Update
  made j v = lock_update (length chart.units) (part_of chart) (λ v. sealed_by (h v)) j v

  abbrev sent : ℕ → ℕ → Update
  sent j = sent_to chart (λ v. sealed_by (h v)) u (made j)

  abbrev fired_at : ℕ → List ℕ
  fired_at j = fired_in chart (state_after chart (merged_of chart h) j) (entries_at (merged_of chart h) (suc j))

  known_starts : (update : Update) → filter own (cut_update (known_to (part_of chart u)) update).starts ≡ filter own update.starts
  unfolding cut_update
  known_starts update = filter_within own (λ s. (known_to (part_of chart u)).acts s.act.0) (λ s e. own_is_known chart u s.act.0 e) update.starts

  own_sent : (j v : ℕ) → v < length chart.units → filter own (sent j v).starts ≡ filter own (made j v).starts
  own_sent j v lt = go (v == u) refl
    where
      go : (b : Bool) → (v == u) ≡ b → filter own (cond b (made j v) (relevant (peers_of chart v) (made j v) u)).starts ≡ filter own (made j v).starts
      go true e = refl
      go false e =
          ap (λ (up : Update). filter own up.starts)
          (relevant_is_known chart u v (made j v) lt_u (λ q. true≢false (sym (eq-eqb v u (sym q)) ∙ e)) (own_within chart v (suc j) (lock_view (length chart.units) (part_of chart) (λ v. sealed_by (h v)) j v) (sealed_by (h v) j) ((are.follow v lt).at_unit j)))
          ∙ known_starts (made j v)

  share_starts : (v j : ℕ) → (share_of chart (merged_of chart h) v j).starts ≡ starts_of chart (filter (λ t. owner chart are.accepted t == v) (fired_at j))
  unfolding share_from
  share_starts v j = ap (starts_of chart) (own_by_owner chart are.accepted v (fired_at j))

  few_transitions : length chart.transitions ≤ max_transitions
  few_transitions = (chart_of chart are.accepted).few_transitions

  fires_at : ℕ → ℕ → Bool
  fires_at j = fires chart (is_enabled chart (snapshot_of chart (state_after chart (merged_of chart h) j) (entries_at (merged_of chart h) (suc j))))

  fired_filter : (j : ℕ) → fired_at j ≡ filter (fires chart (is_enabled chart (snapshot_of chart (state_after chart (merged_of chart h) j) (entries_at (merged_of chart h) (suc j))))) (all_transitions chart)
  fired_filter j = step_fires chart (chart_of chart are.accepted) (state_after chart (merged_of chart h) j) (entries_at (merged_of chart h) (suc j)) (run_configuration chart (chart_of chart are.accepted) (Rattle.std.specs.Prelude.take j (merged_of chart h)))

  turn_acts : (j : ℕ) → j < taken (h u) → Before chart h are (suc j) →
      new_acts (part_of chart u) (insert (inputs_at (h u) j) (part_of chart u).unit.0 (local_update (part_of chart u) (h u) (suc j))) ≡ map (λ s. s.act) (filter (is_at chart u) (starts_of chart (fired_at j)))
  turn_acts j le before =
      let few : j ≤ least_taken (length chart.units) h = omega (arith, near chart h are u lt_u) in
      ap (new_acts (part_of chart u))
      (ap₂ (λ (ins : List Update) (w : ℕ). insert ins w (local_update (part_of chart u) (h u) (suc j)))
      ((agree_lock (lean chart) (length chart.units) (part_of chart) h (unit_of_part chart) (absorbs chart h are) are.agree).kept u j lt_u le) (unit_of_part chart u)
      ∙ ap (insert (map (λ v. lean chart v u (made j v)) (peers (length chart.units) u)) u) (local_update_is chart h are u j lt_u (omega arith))
      ∙ sent_are chart (λ v. sealed_by (h v)) u (made j) lt_u)
      ∙ ap (λ (ss : List StartAt). map (λ s. s.act) (by_transition ss))
      (ap (filter own) (flat_map-map (λ (up : Update). up.starts) (sent j) (range_with_len 0 (length chart.units)))
      ∙ filter_flat own (λ v. (sent j v).starts) (range_with_len 0 (length chart.units))
      ∙ flat_agree (λ v. filter own (sent j v).starts) (λ v. filter own (starts_of chart (filter (λ t. owner chart are.accepted t == v) (filter (fires_of j) (all_transitions chart))))) (range_with_len 0 (length chart.units))
      (λ v m. let r = range_mem 0 (length chart.units) v m in
      let l : v < length chart.units = omega arith in
      own_sent j v l ∙ ap (λ (up : Update). filter own up.starts) (lock_shares chart h are v j l few before)
      ∙ ap (filter own) (share_starts v j)
      ∙ ap (λ (ts : List ℕ). filter own (starts_of chart (filter (λ t. owner chart are.accepted t == v) ts))) (fired_filter j))
      ∙ sym (filter_flat own (λ v. starts_of chart (filter (λ t. owner chart are.accepted t == v) (filter (fires_of j) (all_transitions chart)))) (range_with_len 0 (length chart.units))))
      ∙ ap (map (λ (s : StartAt). s.act))
      (starts_in_order chart own (owner chart are.accepted) (length chart.units) (owner_below chart are.accepted) (fires_of j) (length chart.transitions) few_transitions
      ∙ ap (λ (ts : List ℕ). filter own (starts_of chart ts)) (sym (fired_filter j))
      ∙ filter_same own (is_at chart u) (λ s. own_act chart u s.act.0) (starts_of chart (fired_at j)))
    where
      fires_of : ℕ → ℕ → Bool
      fires_of j = fires chart (is_enabled chart (snapshot_of chart (state_after chart (merged_of chart h) j) (entries_at (merged_of chart h) (suc j))))

  -- THE ITEMS

  abbrev pub acts_at : ℕ → List ActId
  acts_at k = map (λ x. x.act) ((state_after chart (merged_of chart h) k).items u)

  pub acts_next : (k : ℕ) → k < length (merged_of chart h) → acts_at (suc k) ≡ acts_at k ++ map (λ s. s.act) (filter (is_at chart u) (starts_of chart (fired_at k)))
  unfolding next_state
  acts_next k lt =
      ap (λ (c : CentralState). map (λ (x : Item). x.act) (c.items u)) (state_next chart (merged_of chart h) k lt)
      ∙ map-append (λ (x : Item). x.act) (Rattle.wf_semantics.specs.Items.close_all (completions_at u (entries_at (merged_of chart h) (suc k))) ((state_after chart (merged_of chart h) k).items u)) (map (λ (s : StartAt). new_item s.act) (filter (is_at chart u) (starts_of chart (fired_at k))))
      ∙ ap₂ (λ (a b : List ActId). a ++ b) (closing_keeps_acts (completions_at u (entries_at (merged_of chart h) (suc k))) ((state_after chart (merged_of chart h) k).items u))
      (map_map (λ (x : Item). x.act) (λ (s : StartAt). new_item s.act) (filter (is_at chart u) (starts_of chart (fired_at k))))

  -- the unit's items by its history are those of the central run
  pub acts_are : (j : ℕ) → j ≤ taken (h u) → Before chart h are j → acts_at j ≡ item_acts (part_of chart u) (h u) j
  unfolding item_acts first_state
  acts_are zero le before = refl
  acts_are (suc j) le before =
      acts_next j (omega (arith, near chart h are u lt_u, merged_long (length chart.units) h))
      ∙ ap₂ (λ (a b : List ActId). a ++ b) (acts_are j (omega arith) (λ i l. before i (omega arith))) (sym (turn_acts j (omega arith) before))
