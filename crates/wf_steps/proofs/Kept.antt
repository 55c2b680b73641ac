-- What a unit's items have, by the records that made its history.
use Rattle.std.proofs.Common.{◌≡◌, ℕ, zero, suc, ◌+◌, ◌*◌, ◌^◌, ◌<◌, ◌≤◌, ◌==◌, ◌||◌, ◌&&◌, not, nat_lt, cond, Bool, true, false, List, [], ◌∷◌, ◌++◌, map, filter, length, inl, inr, refl, sym, ap, ap₂, ◌∙◌, arith, eqb-true, true≢false, le-leb, lt-ltb, is_ok}
use Rattle.std.proofs.lemmas.Bool.{ltb-true, ltb-false}
use Rattle.std.specs.Prelude.{All}
use Rattle.std.proofs.lemmas.List.Elements.{All-from_recursion}
use Rattle.std.specs.List.{list_any, list_all, flat_map, range_with_len, insert, AllByRecursion}
use Rattle.std.proofs.lemmas.List.{length-map, map-append}
use Rattle.std.proofs.lemmas.Grind.{flat_map-append}
use Rattle.std.proofs.lemmas.List.Folds.{list_any-append, list_all-append}
use Rattle.wf_model.specs.Limits.{max_acts, max_transitions, max_starts}
use Rattle.wf_model.specs.declared.ids.ActId.{ActId}
use Rattle.wf_model.specs.declared.outer.Outer.{Outer}
use Rattle.wf_model.specs.declared.outer.Outer.TheVariants.{Happen, Complete}
use Rattle.wf_model.specs.declared.update.StartAt.{StartAt}
use Rattle.wf_model.specs.declared.update.Update.{Update}
use Rattle.wf_model.proofs.Bools.{and_both, and_true, not_true}
use Rattle.wf_parts.specs.declared.data.KnownActivity.{KnownActivity}
use Rattle.wf_parts.specs.declared.data.PartData.{PartData}
use Rattle.wf_model.specs.declared.chart.Chart.{Chart}
use Rattle.wf_parts.specs.Known.{knows_act}
use Rattle.wf_parts.specs.Parts.{IsPart}
use Rattle.wf_lockstep.proofs.Sight.{act_at, acts_of_part, act_id}
use Rattle.wf_semantics.specs.Admission.{completes}
use Rattle.wf_activities.specs.UnitItems.{is_listed, listed}
use Rattle.wf_views.specs.Absorbing.{starts_in}
use Rattle.wf_histories.specs.Histories.{Admission, History, taken, inputs_at, local_update}
use Rattle.wf_histories.specs.Follows.{is_own_act, by_transition, new_acts, item_acts, is_item}
use Rattle.wf_owns.proofs.Ranged.{length_append, filter_short}
use Rattle.wf_owns.proofs.Small.{few}
use Rattle.wf_worlds.specs.Admitting.{outers, lets_in}
use Rattle.wf_worlds.specs.Counts.{STEP_STARTS, starts_few}
use Rattle.wf_worlds.specs.Growing.{admitted, turned}
use Rattle.wf_worlds.proofs.Counted.{starts_bound, insert_all, insert_length}
use Rattle.wf_worlds.proofs.GoesOn.{admit_on, turn_on}
use Rattle.wf_worlds.proofs.Growing.{items_on, turn_takes, range_push}
use Rattle.wf_steps.specs.Items.{own_acts, is_completed, items_of, in_order, new_starts, all_at}
use Rattle.wf_steps.proofs.ItemsGrow.{length_items}
use Rattle.wf_steps.specs.Growing.{MayAdmit, MayTurn, IsMade, no_records, with_admission, with_turn}
use Rattle.wf_steps.proofs.Turning.{all_now}
use Rattle.wf_steps.proofs.Made.{made_fits, made_steps, inputs_taken, each_few, inputs_few, range_made}
use Rattle.wf_steps.proofs.Rules.{item_within, let_item}

-- OWN STARTS

and_false : (b : Bool) → (b && false) ≡ false
and_false true = refl
and_false false = refl

and_yes : (b : Bool) → (b && true) ≡ b
and_yes true = refl
and_yes false = refl

own_from : (u a : ℕ) (acts : List KnownActivity) → list_any (λ (x : ActId). x.0 == a) (map (λ known. known.id) (filter (λ known. known.unit.0 == u) acts)) ≡ list_any (λ known. (known.id.0 == a) && (known.unit.0 == u)) acts
own_from u a [] = refl
own_from u a (k ∷ acts) = go (k.unit.0 == u) (own_from u a acts)
  where
    go : (b : Bool) → list_any (λ (x : ActId). x.0 == a) (map (λ known. known.id) (filter (λ known. known.unit.0 == u) acts)) ≡ list_any (λ known. (known.id.0 == a) && (known.unit.0 == u)) acts →
        list_any (λ (x : ActId). x.0 == a) (map (λ known. known.id) (cond b (k ∷ filter (λ known. known.unit.0 == u) acts) (filter (λ known. known.unit.0 == u) acts)))
        ≡ (((k.id.0 == a) && b) || list_any (λ known. (known.id.0 == a) && (known.unit.0 == u)) acts)
    go true ih = ap₂ (λ (b c : Bool). b || c) (sym (and_yes (k.id.0 == a))) ih
    go false ih = ih ∙ ap (λ (b : Bool). b || list_any (λ known. (known.id.0 == a) && (known.unit.0 == u)) acts) (sym (and_false (k.id.0 == a)))

pub own_listed : (part : PartData) (a : ℕ) → is_listed (own_acts part) a ≡ is_own_act part a
own_listed part a = own_from part.unit.0 a part.acts

pub listed_own : (part : PartData) (starts : List StartAt) → listed (own_acts part) starts ≡ filter (λ s. is_own_act part s.act.0) starts
listed_own part starts = ap (λ (p : StartAt → Bool). filter p starts) (λ i s. own_listed part s.act.0 i)

filter_passes : {A : Type 0} (p : A → Bool) (xs : List A) → list_all p (filter p xs) ≡ true
filter_passes p [] = refl
filter_passes {A} p (x ∷ xs) = go (p x) refl (filter_passes p xs)
  where
    go : (b : Bool) → p x ≡ b → list_all p (filter p xs) ≡ true → list_all p (cond b (x ∷ filter p xs) (filter p xs)) ≡ true
    go true e ih = and_true (p x) (list_all p (filter p xs)) e ih
    go false e ih = ih

filter_keeps : {A : Type 0} (p q : A → Bool) (xs : List A) → list_all p xs ≡ true → list_all p (filter q xs) ≡ true
filter_keeps p q [] h = refl
filter_keeps {A} p q (x ∷ xs) h = go (q x) (and_both (p x) (list_all p xs) h).0 (filter_keeps p q xs (and_both (p x) (list_all p xs) h).1)
  where
    go : (b : Bool) → p x ≡ true → list_all p (filter q xs) ≡ true → list_all p (cond b (x ∷ filter q xs) (filter q xs)) ≡ true
    go true here ih = and_true (p x) (list_all p (filter q xs)) here ih
    go false here ih = ih

by_keeps : (p : StartAt → Bool) (starts : List StartAt) (ts : List ℕ) → list_all p starts ≡ true → list_all p (flat_map (λ t. filter (λ (s : StartAt). s.trans.0 == t) starts) ts) ≡ true
by_keeps p starts [] h = refl
by_keeps p starts (t ∷ ts) h =
    list_all-append p (filter (λ (s : StartAt). s.trans.0 == t) starts) (flat_map (λ t. filter (λ (s : StartAt). s.trans.0 == t) starts) ts)
    ∙ and_true (list_all p (filter (λ (s : StartAt). s.trans.0 == t) starts)) (list_all p (flat_map (λ t. filter (λ (s : StartAt). s.trans.0 == t) starts) ts)) (filter_keeps p (λ (s : StartAt). s.trans.0 == t) starts h) (by_keeps p starts ts h)

new_own : (part : PartData) (updates : List Update) → list_all (λ (s : StartAt). is_own_act part s.act.0) (new_starts part updates) ≡ true
unfolding in_order
new_own part updates = by_keeps (λ s. is_own_act part s.act.0) (filter (λ s. is_own_act part s.act.0) (starts_in updates)) (range_with_len 0 max_transitions) (filter_passes (λ s. is_own_act part s.act.0) (starts_in updates))

all_filtered : {A : Type 0} (p : A → Bool) (xs : List A) → list_all p xs ≡ true → filter p xs ≡ xs
all_filtered p [] h = refl
all_filtered {A} p (x ∷ xs) h =
    let both = and_both (p x) (list_all p xs) h in
    ap (λ (b : Bool). cond b (x ∷ filter p xs) (filter p xs)) both.0 ∙ ap (λ (l : List A). x ∷ l) (all_filtered p xs both.1)

pub new_listed : (part : PartData) (updates : List Update) → listed (own_acts part) (new_starts part updates) ≡ new_starts part updates
new_listed part updates = listed_own part (new_starts part updates) ∙ all_filtered (λ s. is_own_act part s.act.0) (new_starts part updates) (new_own part updates)

own_small : (acts : List KnownActivity) (u : ℕ) → list_all (λ (k : KnownActivity). nat_lt k.id.0 max_acts) acts ≡ true → AllByRecursion (λ (a : ActId). a.0 < max_acts) (map (λ known. known.id) (filter (λ known. known.unit.0 == u) acts))
own_small [] u h = tt
own_small (k ∷ acts) u h = let both = and_both (nat_lt k.id.0 max_acts) (list_all (λ (k : KnownActivity). nat_lt k.id.0 max_acts) acts) h in go (k.unit.0 == u) (ltb-true k.id.0 max_acts both.0) (own_small acts u both.1)
  where
    go : (b : Bool) → k.id.0 < max_acts → AllByRecursion (λ (a : ActId). a.0 < max_acts) (map (λ known. known.id) (filter (λ known. known.unit.0 == u) acts)) →
        AllByRecursion (λ (a : ActId). a.0 < max_acts) (map (λ known. known.id) (cond b (k ∷ filter (λ known. known.unit.0 == u) acts) (filter (λ known. known.unit.0 == u) acts)))
    go true here ih = (here, ih)
    go false here ih = ih

known_small : (chart : Chart) (u : ℕ) (ns : List ℕ) (m : ℕ) → m ≤ max_acts → list_all (λ n. nat_lt n m) ns ≡ true → list_all (λ (k : KnownActivity). nat_lt k.id.0 max_acts) (map (act_at chart u) ns) ≡ true
known_small chart u [] m le h = refl
known_small chart u (n ∷ ns) m le h =
    let both = and_both (nat_lt n m) (list_all (λ n. nat_lt n m) ns) h in
    and_true (nat_lt (act_at chart u n).id.0 max_acts) (list_all (λ (k : KnownActivity). nat_lt k.id.0 max_acts) (map (act_at chart u) ns))
    (lt-ltb (act_at chart u n).id.0 max_acts (omega (arith, ap (λ (i : ActId). i.0) (act_id chart u n), ltb-true n m both.0, le))) (known_small chart u ns m le both.1)

range_below : (a n m : ℕ) → a + n ≤ m → list_all (λ k. nat_lt k m) (range_with_len a n) ≡ true
range_below a zero m le = refl
range_below a (suc n) m le = and_true (nat_lt a m) (list_all (λ k. nat_lt k m) (range_with_len (a + 1) n)) (lt-ltb a m (omega (arith, le))) (range_below (a + 1) n m (omega (arith, le)))

pub acts_below : (part : PartData) (is : IsPart part) → All (λ a. a.0 < max_acts) (own_acts part)
acts_below part is =
    let n = length is.chart.acts in
    let all : list_all (λ (k : KnownActivity). nat_lt k.id.0 max_acts) part.acts ≡ true =
    ap (λ (p : PartData). list_all (λ (k : KnownActivity). nat_lt k.id.0 max_acts) p.acts) is.is
    ∙ ap (list_all (λ (k : KnownActivity). nat_lt k.id.0 max_acts)) (acts_of_part is.chart is.unit)
    ∙ known_small is.chart is.unit (filter (knows_act is.chart is.unit) (range_with_len 0 n)) n (few is.chart is.accepted).acts (filter_keeps (λ k. nat_lt k n) (knows_act is.chart is.unit) (range_with_len 0 n) (range_below 0 n n (omega arith)))
    in
    All-from_recursion (λ (a : ActId). a.0 < max_acts) (own_acts part) (own_small part.acts part.unit.0 all)

-- HOW MANY THEY ARE

pub items_long : (part : PartData) (h : History) → length (items_of part h) ≡ length (item_acts part h (taken h))
unfolding items_of
items_long part h = length_items (is_completed h) 1 (item_acts part h (taken h))

-- of these starts those of transitions below n are as many as the blocks of these transitions
blocks_long : (starts : List StartAt) (n : ℕ) → length (flat_map (λ t. filter (λ (s : StartAt). s.trans.0 == t) starts) (range_with_len 0 n)) ≤ length (filter (λ (s : StartAt). nat_lt s.trans.0 n) starts)
blocks_long starts zero = omega arith
blocks_long starts (suc n) =
    let f : ℕ → List StartAt = λ t. filter (λ (s : StartAt). s.trans.0 == t) starts in
    let here : flat_map f (range_with_len 0 (suc n)) ≡ flat_map f (range_with_len 0 n) ++ (f n ++ []) =
    ap (flat_map f) (sym (range_push 0 n)) ∙ flat_map-append f (range_with_len 0 n) ((0 + n) ∷ []) ∙ ap (λ (k : ℕ). flat_map f (range_with_len 0 n) ++ (f k ++ [])) (let e : 0 + n ≡ n = omega arith in e)
    in
    omega (arith, ap (λ (l : List StartAt). length l) here, length_append (flat_map f (range_with_len 0 n)) (f n ++ []), length_append (f n) [], blocks_long starts n, split_long n starts)
  where
    split_long : (n : ℕ) (starts : List StartAt) → length (filter (λ (s : StartAt). nat_lt s.trans.0 n) starts) + length (filter (λ (s : StartAt). s.trans.0 == n) starts) ≤ length (filter (λ (s : StartAt). nat_lt s.trans.0 (suc n)) starts)
    split_long n [] = omega arith
    split_long n (x ∷ xs) = go (nat_lt x.trans.0 n) (x.trans.0 == n) (nat_lt x.trans.0 (suc n)) (λ a. ltb-true x.trans.0 n a) (λ a. eqb-true x.trans.0 n a) (λ a. ltb-false x.trans.0 (suc n) a) (split_long n xs)
      where
        go : (b c d : Bool) → (b ≡ true → x.trans.0 < n) → (c ≡ true → x.trans.0 ≡ n) → (d ≡ false → suc n ≤ x.trans.0) →
            length (filter (λ (s : StartAt). nat_lt s.trans.0 n) xs) + length (filter (λ (s : StartAt). s.trans.0 == n) xs) ≤ length (filter (λ (s : StartAt). nat_lt s.trans.0 (suc n)) xs) →
            length (cond b (x ∷ filter (λ (s : StartAt). nat_lt s.trans.0 n) xs) (filter (λ (s : StartAt). nat_lt s.trans.0 n) xs)) + length (cond c (x ∷ filter (λ (s : StartAt). s.trans.0 == n) xs) (filter (λ (s : StartAt). s.trans.0 == n) xs))
            ≤ length (cond d (x ∷ filter (λ (s : StartAt). nat_lt s.trans.0 (suc n)) xs) (filter (λ (s : StartAt). nat_lt s.trans.0 (suc n)) xs))
        go true true d lt eq ge ih = let a = lt refl in let b = eq refl in absurd (omega (arith, a, b))
        go true false true lt eq ge ih = omega (arith, ih)
        go true false false lt eq ge ih = let a = lt refl in let b = ge refl in absurd (omega (arith, a, b))
        go false true true lt eq ge ih = omega (arith, ih)
        go false true false lt eq ge ih = let a = eq refl in let b = ge refl in absurd (omega (arith, a, b))
        go false false true lt eq ge ih = omega (arith, ih)
        go false false false lt eq ge ih = ih

pub new_few : (part : PartData) (updates : List Update) → length (new_starts part updates) ≤ length (starts_in updates)
unfolding in_order
new_few part updates =
    let own = filter (λ (s : StartAt). is_own_act part s.act.0) (starts_in updates) in
    let a = blocks_long own max_transitions in
    let b = filter_short (λ (s : StartAt). nat_lt s.trans.0 max_transitions) own in
    let c = filter_short (λ (s : StartAt). is_own_act part s.act.0) (starts_in updates) in
    omega (arith, a, b, c)

-- the starts of a step that one Turn takes in
pub step_few : (part : PartData) (is : IsPart part) (inputs : List Update) (own : Update) → length inputs < length is.chart.units → list_all starts_few inputs ≡ true → starts_few own ≡ true →
    length (new_starts part (insert inputs part.unit.0 own)) ≤ STEP_STARTS
step_few part is inputs own short small own_small =
    let all = insert inputs part.unit.0 own in
    let a = new_few part all in
    let b = starts_bound all (insert_all starts_few inputs part.unit.0 own small own_small) in
    let c = insert_length inputs part.unit.0 own in
    let d = (few is.chart is.accepted).units in
    omega (arith, a, b, c, d, short)

module _ (part : PartData) (is : IsPart part) where
  pub turn_few : {h : History} (inputs : List Update) → IsMade part h → MayTurn part h inputs → length (new_starts part (insert inputs part.unit.0 (local_update part h (suc (taken h))))) ≤ STEP_STARTS
  turn_few {h} inputs made may =
      let range = range_made part is made (taken h) (omega arith) in
      step_few part is inputs (local_update part h (suc (taken h))) (inputs_few part is (taken h + 1) inputs may.suited) (each_few inputs may.ranges)
      (le-leb (length (local_update part h (suc (taken h))).starts) max_starts range.starts_few)

  pub items_few : {h : History} → IsMade part h → length (item_acts part h (taken h)) ≤ STEP_STARTS * taken h
  unfolding item_acts in_order
  items_few no_records = omega arith
  items_few (with_admission h a made may) =
      let same = ap (λ (l : List ActId). length l) (items_on part h (admitted h a) (admit_on h a) (made_fits part made) (taken h) (omega arith)) in
      omega (arith, same, items_few made)
  items_few (with_turn h inputs made may) =
      let tk = turn_takes h inputs in
      let long : length (item_acts part (turned h inputs) (taken (turned h inputs))) ≡ length (item_acts part h (taken h)) + length (new_starts part (insert inputs part.unit.0 (local_update part h (suc (taken h))))) =
      ap (λ (n : ℕ). length (item_acts part (turned h inputs) n)) tk
      ∙ length_append (item_acts part (turned h inputs) (taken h)) (new_acts part (all_at part (turned h inputs) (taken h)))
      ∙ ap₂ (λ (a b : List _). length a + length b) (items_on part h (turned h inputs) (turn_on h inputs) (made_fits part made) (taken h) (omega arith)) (ap (new_acts part) (all_now part h inputs (made_fits part made)))
      ∙ ap (λ (n : ℕ). length (item_acts part h (taken h)) + n) (length-map (new_starts part (insert inputs part.unit.0 (local_update part h (suc (taken h))))) (λ (s : StartAt). s.act))
      in
      omega (arith, long, tk, items_few made, turn_few inputs made may)

-- NONE IS COMPLETED THAT ISN'T THERE

or_false : (b : Bool) → (b || false) ≡ b
or_false true = refl
or_false false = refl

pub completed_more : (h : History) (a : Admission) (n : ℕ) → is_completed (admitted h a) n ≡ (is_completed h n || completes n a.outer)
completed_more h a n =
    ap (list_any (completes n)) (map-append (λ (x : Admission). x.outer) h.admissions (a ∷ []))
    ∙ list_any-append (completes n) (outers h.admissions) (a.outer ∷ [])
    ∙ ap (λ (b : Bool). is_completed h n || b) (or_false (completes n a.outer))

beyond : (part : PartData) (h : History) (o : Outer) (n : ℕ) → is_ok (lets_in part h o) ≡ true → length (item_acts part h (taken h)) < n → completes n o ≡ false
beyond part h (Happen e) n lets l = refl
beyond part h (Complete m a os) n lets l =
    let there = item_within (item_acts part h (taken h)) m a.0 (let_item part h m a os lets).0 in
    not_true (m == n) (λ e. let same = eqb-true m n e in omega (arith, same, there, l))

pub completed_there : (part : PartData) {h : History} → IsMade part h → (n : ℕ) → length (item_acts part h (taken h)) < n → is_completed h n ≡ false
unfolding item_acts
completed_there part no_records n l = refl
completed_there part (with_admission h a made may) n l =
    let same = ap (λ (x : List ActId). length x) (items_on part h (admitted h a) (admit_on h a) (made_fits part made) (taken h) (omega arith)) in
    completed_more h a n ∙ ap₂ (λ (b c : Bool). b || c) (completed_there part made n (omega (arith, same, l))) (beyond part h a.outer n may.lets (omega (arith, same, l)))
completed_there part (with_turn h inputs made may) n l =
    let tk = turn_takes h inputs in
    let same = ap (λ (x : List ActId). length x) (items_on part h (turned h inputs) (turn_on h inputs) (made_fits part made) (taken h) (omega arith)) in
    let long : length (item_acts part (turned h inputs) (taken (turned h inputs))) ≡ length (item_acts part (turned h inputs) (taken h)) + length (new_acts part (all_at part (turned h inputs) (taken h))) =
    ap (λ (n : ℕ). length (item_acts part (turned h inputs) n)) tk ∙ length_append (item_acts part (turned h inputs) (taken h)) (new_acts part (all_at part (turned h inputs) (taken h)))
    in
    completed_there part made n (omega (arith, same, long, l))

-- there are fewer than 2^32
pub items_below : (part : PartData) → IsPart part → {h : History} → IsMade part h → length (items_of part h) < 2 ^ 32
items_below part is {h} made = let long = items_long part h in let few = items_few part is made in let steps = made_steps part made in omega (arith, long, few, steps)
