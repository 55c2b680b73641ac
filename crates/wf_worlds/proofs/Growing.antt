-- One history at a time: what admissions and Turns keep of what a history must have.
use Rattle.std.proofs.Common.{◌≡◌, ℕ, zero, suc, ◌+◌, ◌<◌, ◌≤◌, nat_le, min, Bool, true, List, [], ◌∷◌, ◌++◌, length, take, drop, get_or, inl, inr, refl, sym, ap, ap₂, ◌∙◌, arith, le-leb, true≢false}
use Rattle.std.specs.List.{list_all, sum, insert, range_with_len}
use Rattle.std.proofs.lemmas.List.{map-append, append-nil, length-append, take-append-drop, drop-append-le}
use Rattle.std.proofs.lemmas.List.Folds.{list_all-append}
use Rattle.std.proofs.lemmas.List.Sums.{sum_by_push}
use Rattle.std.proofs.Math.Seq.{get_or-append_seam, take-append_seam, take-suc}
use Rattle.wf_model.specs.Limits.{max_sealed}
use Rattle.wf_model.specs.declared.ids.ActId.{ActId}
use Rattle.wf_model.specs.declared.chart.Chart.{Chart}
use Rattle.wf_model.specs.declared.outer.Outer.{Outer}
use Rattle.wf_model.specs.declared.outer.Outer.TheVariants.{Happen, Complete}
use Rattle.wf_model.specs.declared.update.Update.{Update}
use Rattle.wf_parts.specs.declared.data.PartData.{PartData}
use Rattle.wf_model.proofs.Bools.{and_both, and_true}
use Rattle.wf_semantics.proofs.Children.{lt_or_ge}
use Rattle.wf_parts.specs.Parts.{part_of}
use Rattle.wf_lockstep.specs.Within.{is_at_unit}
use Rattle.wf_histories.specs.Histories.{Admission, TurnDone, History, seals, taken, inputs_at, sealed_by, local_update}
use Rattle.wf_histories.specs.Follows.{new_acts, item_acts, is_item, is_there, is_first, are_first, sealed_before}
use Rattle.wf_owns.specs.Ranges.{has_item}
use Rattle.wf_worlds.specs.Admitting.{outers}
use Rattle.wf_worlds.specs.Growing.{GoesOn, Fits, waiting_of, unsealed, admitted, turned, AdmitKeeps, TurnKeeps, GoodFollows}
use Rattle.wf_worlds.proofs.GoesOn.{inputs_on, sealed_on, update_on, admit_on, turn_on}
use Rattle.wf_worlds.proofs.PartRule.{let_in}

-- LISTS

pub all_left : {A : Type 0} (p : A → Bool) (xs ys : List A) → list_all p (xs ++ ys) ≡ true → list_all p xs ≡ true
all_left p xs ys h = (and_both (list_all p xs) (list_all p ys) (sym (list_all-append p xs ys) ∙ h)).0

pub all_right : {A : Type 0} (p : A → Bool) (xs ys : List A) → list_all p (xs ++ ys) ≡ true → list_all p ys ≡ true
all_right p xs ys h = (and_both (list_all p xs) (list_all p ys) (sym (list_all-append p xs ys) ∙ h)).1

pub all_join : {A : Type 0} (p : A → Bool) (xs ys : List A) → list_all p xs ≡ true → list_all p ys ≡ true → list_all p (xs ++ ys) ≡ true
all_join p xs ys a b = list_all-append p xs ys ∙ and_true (list_all p xs) (list_all p ys) a b

drop_none : {A : Type 0} (k : ℕ) → ◌≡◌ {A = List A} (drop k []) []
drop_none zero = refl
drop_none (suc k) = refl

pub drop_plus : {A : Type 0} (a b : ℕ) (xs : List A) → drop (a + b) xs ≡ drop b (drop a xs)
drop_plus zero b xs = ap (λ (k : ℕ). drop k xs) (let q : 0 + b ≡ b = omega arith in q)
drop_plus {A} (suc a) b [] = drop_none (suc a + b) ∙ sym (drop_none b)
drop_plus (suc a) b (x ∷ xs) = ap (λ (k : ℕ). drop k (x ∷ xs)) (let q : suc a + b ≡ suc (a + b) = omega arith in q) ∙ drop_plus a b xs

take_none : {A : Type 0} (k : ℕ) → ◌≡◌ {A = List A} (take k []) []
take_none zero = refl
take_none (suc k) = refl

pub take_plus : {A : Type 0} (a b : ℕ) (xs : List A) → take (a + b) xs ≡ take a xs ++ take b (drop a xs)
take_plus zero b xs = ap (λ (k : ℕ). take k xs) (let q : 0 + b ≡ b = omega arith in q)
take_plus {A} (suc a) b [] = take_none (suc a + b) ∙ sym (take_none b)
take_plus {A} (suc a) b (x ∷ xs) = ap (λ (k : ℕ). take k (x ∷ xs)) (let q : suc a + b ≡ suc (a + b) = omega arith in q) ∙ ap (λ (l : List A). x ∷ l) (take_plus a b xs)

-- the outers before and after a place
pub split_outers : (k : ℕ) (xs : List Admission) → outers xs ≡ outers (take k xs) ++ outers (drop k xs)
split_outers k xs = ap outers (sym (take-append-drop k xs)) ∙ map-append (λ (a : Admission). a.outer) (take k xs) (drop k xs)

-- ITEMS AND COMPLETIONS

item_more : (acts more : List ActId) (n a : ℕ) → is_item acts n a ≡ true → is_item (acts ++ more) n a ≡ true
item_more acts more zero a h = h
item_more [] more (suc n) a h = absurd (true≢false (sym h))
item_more (x ∷ acts) more (suc zero) a h = h
item_more (x ∷ acts) more (suc (suc n)) a h = item_more acts more (suc n) a h

there_more : (acts more : List ActId) (o : Outer) → is_there acts o ≡ true → is_there (acts ++ more) o ≡ true
there_more acts more (Happen e) h = refl
there_more acts more (Complete n a os) h = item_more acts more n a.0 h

all_there_more : (acts more : List ActId) (os : List Outer) → list_all (is_there acts) os ≡ true → list_all (is_there (acts ++ more)) os ≡ true
all_there_more acts more [] h = refl
all_there_more acts more (o ∷ os) h =
    let a = and_both (is_there acts o) (list_all (is_there acts) os) h in
    and_true (is_there (acts ++ more) o) (list_all (is_there (acts ++ more)) os) (there_more acts more o a.0) (all_there_more acts more os a.1)

append_assoc : {A : Type 0} (xs ys zs : List A) → (xs ++ ys) ++ zs ≡ xs ++ (ys ++ zs)
append_assoc [] ys zs = refl
append_assoc {A} (x ∷ xs) ys zs = ap (λ (l : List A). x ∷ l) (append_assoc xs ys zs)

first_push : (before os : List Outer) (o : Outer) → are_first before os ≡ true → is_first (before ++ os) o ≡ true → are_first before (os ++ o ∷ []) ≡ true
first_push before [] o h k = and_true (is_first before o) true (ap (λ (l : List Outer). is_first l o) (sym (append-nil before)) ∙ k) refl
first_push before (x ∷ os) o h k =
    let a = and_both (is_first before x) (are_first (before ++ x ∷ []) os) h in
    and_true (is_first before x) (are_first (before ++ x ∷ []) (os ++ o ∷ [])) a.0
    (first_push (before ++ x ∷ []) os o a.1 (ap (λ (l : List Outer). is_first l o) (append_assoc before (x ∷ []) os) ∙ k))

first_left : (before xs ys : List Outer) → are_first before (xs ++ ys) ≡ true → are_first before xs ≡ true
first_left before [] ys h = refl
first_left before (x ∷ xs) ys h =
    let a = and_both (is_first before x) (are_first (before ++ x ∷ []) (xs ++ ys)) h in
    and_true (is_first before x) (are_first (before ++ x ∷ []) xs) a.0 (first_left (before ++ x ∷ []) xs ys a.1)

pub range_push : (a n : ℕ) → range_with_len a n ++ (a + n) ∷ [] ≡ range_with_len a (suc n)
range_push a zero = ap (λ (k : ℕ). k ∷ []) (let q : a + 0 ≡ a = omega arith in q)
range_push a (suc n) = ap (λ (l : List ℕ). a ∷ l) (ap (λ (k : ℕ). range_with_len (a + 1) n ++ k ∷ []) (let q : a + suc n ≡ a + 1 + n = omega arith in q) ∙ range_push (a + 1) n)

pub items_on : (part : PartData) (h g : History) → GoesOn h g → Fits h → (j : ℕ) → j ≤ taken h → item_acts part g j ≡ item_acts part h j
unfolding item_acts
items_on part h g on fits zero l = refl
items_on part h g on fits (suc j) l = ap₂ (λ (xs ys : List ActId). xs ++ ys) (items_on part h g on fits j (omega arith))
    (ap₂ (λ (ins : List Update) (update : Update). new_acts part (insert ins part.unit.0 update)) (inputs_on h g on fits j (omega arith)) (update_on h g on fits part (suc j) (omega arith)))

-- AN ADMISSION

pub admit_keeps : AdmitKeeps
admit_keeps chart u h a ok fits g may = record {
  at_unit = ap (list_all (is_at_unit chart u)) both ∙ all_join (is_at_unit chart u) (outers h.admissions) (a.outer ∷ []) g.at_unit (and_true (is_at_unit chart u a.outer) true allowed.0 refl);
  items = ap (list_all has_item) both ∙ all_join has_item (outers h.admissions) (a.outer ∷ []) g.items (and_true (has_item a.outer) true allowed.1 refl);
  there = λ j l. ap₂ (λ (acts : List ActId) (os : List Outer). list_all (is_there acts) os) (items_on (part_of chart u) h new on fits j (omega arith)) (sealed_on h new on fits (suc j) (omega arith)) ∙ g.there j l;
  waiting =
      ap₂ (λ (acts : List ActId) (os : List Outer). list_all (is_there acts) os) (items_on (part_of chart u) h new on fits (taken h) (omega arith)) waits
      ∙ all_join (is_there (item_acts (part_of chart u) h (taken h))) (waiting_of h) (a.outer ∷ []) g.waiting (and_true (is_there (item_acts (part_of chart u) h (taken h)) a.outer) true allowed.2 refl);
  once = ap (are_first []) both ∙ first_push [] (outers h.admissions) a.outer g.once allowed.3;
  steps = g.steps;
  few = g.few;
}
  where
    new : History
    new = admitted h a

    allowed : (is_at_unit chart u a.outer ≡ true) × (has_item a.outer ≡ true) × (is_there (item_acts (part_of chart u) h (taken h)) a.outer ≡ true) × (is_first (outers h.admissions) a.outer ≡ true)
    allowed = let_in chart u ok (item_acts (part_of chart u) h (taken h)) (outers h.admissions) a.outer may

    on : GoesOn h (admitted h a)
    on = admit_on h a

    both : outers (h.admissions ++ a ∷ []) ≡ outers h.admissions ++ a.outer ∷ []
    both = map-append (λ (x : Admission). x.outer) h.admissions (a ∷ [])

    waits : outers (drop (sum (seals h)) (h.admissions ++ a ∷ [])) ≡ waiting_of h ++ a.outer ∷ []
    waits = ap outers (drop-append-le (sum (seals h)) h.admissions (a ∷ []) fits) ∙ map-append (λ (x : Admission). x.outer) (drop (sum (seals h)) h.admissions) (a ∷ [])

-- A TURN

pub turn_seals : (h : History) (updates : List Update) → seals (turned h updates) ≡ seals h ++ min max_sealed (unsealed h) ∷ []
turn_seals h updates = map-append (λ (t : TurnDone). t.sealed) h.turns (record { step = taken h + 1; inputs = updates; sealed = min max_sealed (unsealed h) } ∷ [])

pub turn_takes : (h : History) (updates : List Update) → taken (turned h updates) ≡ suc (taken h)
turn_takes h updates = ap (λ (l : List ℕ). length l) (turn_seals h updates) ∙ (let q = length-append (seals h) (min max_sealed (unsealed h) ∷ []) in omega (arith, q))

pub turn_keeps : TurnKeeps
unfolding sealed_by item_acts
turn_keeps chart u h updates fits g = record {
  at_unit = g.at_unit;
  items = g.items;
  there = there;
  waiting = waits;
  once = g.once;
  steps =
      map-append (λ (t : TurnDone). t.step) h.turns (record { step = taken h + 1; inputs = updates; sealed = c } ∷ [])
      ∙ ap₂ (λ (l : List ℕ) (k : ℕ). l ++ k ∷ []) g.steps (let q : taken h + 1 ≡ 1 + taken h = omega arith in q)
      ∙ range_push 1 (taken h)
      ∙ ap (range_with_len 1) (sym (turn_takes h updates));
  few = ap (list_all (λ n. nat_le n max_sealed)) (turn_seals h updates) ∙ all_join (λ n. nat_le n max_sealed) (seals h) (c ∷ []) g.few (and_true (nat_le c max_sealed) true (le-leb c max_sealed (omega arith)) refl);
}
  where
    c : ℕ
    c = min max_sealed (unsealed h)

    new : History
    new = turned h updates

    on : GoesOn h (turned h updates)
    on = turn_on h updates

    rest : List Admission
    rest = drop (sum (seals h)) h.admissions

    last_sealed : sealed_by new (suc (taken h)) ≡ outers (take (min max_sealed (unsealed h)) (drop (sum (seals h)) h.admissions))
    last_sealed =
        ap (λ (ss : List ℕ). outers (take (get_or ss (taken h) 0) (drop (sum (take (taken h) ss)) h.admissions))) (turn_seals h updates)
        ∙ ap₂ (λ (k : ℕ) (ss : List ℕ). outers (take k (drop (sum ss) h.admissions))) (get_or-append_seam (seals h) (min max_sealed (unsealed h)) [] 0) (take-append_seam (seals h) (min max_sealed (unsealed h) ∷ []))

    was : list_all (is_there (item_acts (part_of chart u) (turned h updates) (taken h))) (outers (take (min max_sealed (unsealed h)) (drop (sum (seals h)) h.admissions)) ++ outers (drop (min max_sealed (unsealed h)) (drop (sum (seals h)) h.admissions))) ≡ true
    was =
        ap₂ (λ (acts : List ActId) (os : List Outer). list_all (is_there acts) os) (items_on (part_of chart u) h new on fits (taken h) (omega arith)) (sym (split_outers c (drop (sum (seals h)) h.admissions)))
        ∙ g.waiting

    there : (j : ℕ) → j < taken (turned h updates) → list_all (is_there (item_acts (part_of chart u) (turned h updates) j)) (sealed_by (turned h updates) (suc j)) ≡ true
    there j l = elim (lt_or_ge j (taken h)) [
      | inl k ↦ ap₂ (λ (acts : List ActId) (os : List Outer). list_all (is_there acts) os) (items_on (part_of chart u) h new on fits j (omega arith)) (sealed_on h new on fits (suc j) (omega arith)) ∙ g.there j k
      | inr k ↦ let e : j ≡ taken h = omega (arith, turn_takes h updates) in
          ap (λ (i : ℕ). list_all (is_there (item_acts (part_of chart u) new i)) (sealed_by new (suc i))) e
          ∙ ap (list_all (is_there (item_acts (part_of chart u) new (taken h)))) last_sealed
          ∙ all_left (is_there (item_acts (part_of chart u) new (taken h))) (outers (take c rest)) (outers (drop c rest)) was
    ]

    still : waiting_of (turned h updates) ≡ outers (drop (min max_sealed (unsealed h)) (drop (sum (seals h)) h.admissions))
    still = ap (λ (ss : List ℕ). outers (drop (sum ss) h.admissions)) (turn_seals h updates)
        ∙ ap (λ (k : ℕ). outers (drop k h.admissions)) (sum_by_push (λ x. x) (seals h) c)
        ∙ ap outers (drop_plus (sum (seals h)) c h.admissions)

    waits : list_all (is_there (item_acts (part_of chart u) (turned h updates) (taken (turned h updates)))) (waiting_of (turned h updates)) ≡ true
    waits =
        ap₂ (λ (k : ℕ) (os : List Outer). list_all (is_there (item_acts (part_of chart u) new k)) os) (turn_takes h updates) still
        ∙ all_there_more (item_acts (part_of chart u) new (taken h)) (new_acts (part_of chart u) (insert (inputs_at new (taken h)) (part_of chart u).unit.0 (local_update (part_of chart u) new (suc (taken h))))) (outers (drop c rest))
        (all_right (is_there (item_acts (part_of chart u) new (taken h))) (outers (take c rest)) (outers (drop c rest)) was)

-- WHAT THE CENTRAL LAW ASKS

pub sealed_first : (h : History) (j : ℕ) → j ≤ taken h → sealed_before h (suc j) ≡ outers (take (sum (take j (seals h))) h.admissions)
unfolding sealed_before sealed_by
sealed_first h zero l = refl
sealed_first h (suc j) l =
    let s = sum (take j (seals h)) in
    let k = get_or (seals h) j 0 in
    ap (λ (os : List Outer). os ++ outers (take k (drop s h.admissions))) (sealed_first h j (omega arith))
    ∙ sym (map-append (λ (a : Admission). a.outer) (take s h.admissions) (take k (drop s h.admissions)))
    ∙ ap (λ (xs : List Admission). outers xs) (sym (take_plus s k h.admissions))
    ∙ ap (λ (n : ℕ). outers (take n h.admissions)) (sym (ap sum (take-suc (seals h) j 0 (omega arith)) ∙ sum_by_push (λ x. x) (take j (seals h)) k))

pub sealed_pass : (p : Outer → Bool) (h : History) → list_all p (outers h.admissions) ≡ true → (j : ℕ) → list_all p (sealed_by h j) ≡ true
unfolding sealed_by
sealed_pass p h g zero = refl
sealed_pass p h g (suc i) =
    let s = sum (take i (seals h)) in
    let k = get_or (seals h) i 0 in
    all_left p (outers (take k (drop s h.admissions))) (outers (drop k (drop s h.admissions))) (ap (list_all p) (sym (split_outers k (drop s h.admissions)))
    ∙ all_right p (outers (take s h.admissions)) (outers (drop s h.admissions)) (ap (list_all p) (sym (split_outers s h.admissions)) ∙ g))

pub good_follows : GoodFollows
good_follows chart u h g = record {
  at_unit = sealed_pass (is_at_unit chart u) h g.at_unit;
  there = g.there;
  once =
      let n = sum (take (taken h) (seals h)) in
      ap (are_first []) (sealed_first h (taken h) (omega arith))
      ∙ first_left [] (outers (take n h.admissions)) (outers (drop n h.admissions)) (ap (are_first []) (sym (split_outers n h.admissions)) ∙ g.once);
}
