-- The starts of a unit stand in order of step, transition and place.
use Rattle.std.proofs.Common.{◌≡◌, ℕ, zero, suc, ◌+◌, ◌<◌, ◌≤◌, ◌==◌, ◌&&◌, ◌++◌, nat_lt, cond, Bool, true, false, List, [], ◌∷◌, Some, None, length, map, filter, refl, sym, subst, inl, inr, arith, eq-eqb, ltb-true}
use Rattle.std.specs.Bool.{⊤}
use Rattle.std.specs.Prelude.{flat_map}
use Rattle.std.specs.List.{slice_get, range_with_len}
use Rattle.std.proofs.lemmas.Bool.{lt-ltb, ltb-false}
use Rattle.wf_model.specs.declared.chart.Action.{Action}
use Rattle.wf_model.specs.declared.chart.Action.TheVariants.{Assign, Raise, Start}
use Rattle.wf_model.specs.declared.chart.Chart.{Chart}
use Rattle.wf_model.specs.declared.outer.Entry.{Entry}
use Rattle.wf_model.specs.declared.update.StartAt.{StartAt}
use Rattle.wf_model.specs.Tree.{is_among}
use Rattle.wf_semantics.specs.Effects.{actions_of, starts_from, starts_of}
use Rattle.wf_semantics.specs.Walk.{fired, first_of_scope}
use Rattle.wf_semantics.specs.Snapshot.{is_enabled}
use Rattle.wf_semantics.specs.Run.{CentralState, first_state, next_state, snapshot_of, fired_in, is_at}
use Rattle.wf_model.proofs.Bools.{or_cases, or_left, or_right, and_both, and_true}
use Rattle.wf_runs.specs.Starts.{StartIn, in_step, starts_at, starts_along, all_starts, start_at, is_earlier, is_before}
use Rattle.wf_runs.proofs.Numbers.{next_taken}

-- P holds of each element
abbrev Each : {A : Type 0} → (A → Type 0) → List A → Type 0
Each P [] = ⊤
Each P (x ∷ xs) = P x × Each P xs

-- each element stands in r to each behind it
abbrev AreOrdered : {A : Type 0} → (A → A → Bool) → List A → Type 0
AreOrdered r [] = ⊤
AreOrdered r (x ∷ xs) = Each (λ y. r x y ≡ true) xs × AreOrdered r xs

each_imp : {A : Type 0} (P Q : A → Type 0) → ((x : A) → P x → Q x) → (xs : List A) → Each P xs → Each Q xs
each_imp P Q f [] h = tt
each_imp P Q f (x ∷ xs) h = (f x h.0, each_imp P Q f xs h.1)

each_append : {A : Type 0} (P : A → Type 0) (xs ys : List A) → Each P xs → Each P ys → Each P (xs ++ ys)
each_append P [] ys h k = k
each_append P (x ∷ xs) ys h k = (h.0, each_append P xs ys h.1 k)

each_filter : {A : Type 0} (P : A → Type 0) (p : A → Bool) (xs : List A) → Each P xs → Each P (filter p xs)
each_filter P p [] h = tt
each_filter P p (x ∷ xs) h = go (p x) (each_filter P p xs h.1)
  where
    go : (b : Bool) → Each P (filter p xs) → Each P (cond b (x ∷ filter p xs) (filter p xs))
    go true k = (h.0, k)
    go false k = k

each_map : {A B : Type 0} (P : B → Type 0) (f : A → B) (xs : List A) → Each (λ x. P (f x)) xs → Each P (map f xs)
each_map P f [] h = tt
each_map P f (x ∷ xs) h = (h.0, each_map P f xs h.1)

all_each : {A : Type 0} (P : A → Type 0) → ((x : A) → P x) → (xs : List A) → Each P xs
all_each P f [] = tt
all_each P f (x ∷ xs) = (f x, all_each P f xs)

each_at : {A : Type 0} (P : A → Type 0) (xs : List A) (i : ℕ) (x : A) → Each P xs → slice_get xs i ≡ Some x → P x
each_at P [] i x h e = absurd (none e)
  where
    none : None ≡ Some x → ⊥
    none q = cc
each_at P (y ∷ ys) zero x h e = let same : y ≡ x = cc in subst P same h.0
each_at P (y ∷ ys) (suc i) x h e = each_at P ys i x h.1 e

ordered_append : {A : Type 0} (r : A → A → Bool) (xs ys : List A) → AreOrdered r xs → AreOrdered r ys → Each (λ x. Each (λ y. r x y ≡ true) ys) xs → AreOrdered r (xs ++ ys)
ordered_append r [] ys h k b = k
ordered_append r (x ∷ xs) ys h k b = (each_append (λ y. r x y ≡ true) xs ys h.0 b.0, ordered_append r xs ys h.1 k b.1)

ordered_filter : {A : Type 0} (r : A → A → Bool) (p : A → Bool) (xs : List A) → AreOrdered r xs → AreOrdered r (filter p xs)
ordered_filter r p [] h = tt
ordered_filter r p (x ∷ xs) h = go (p x) (ordered_filter r p xs h.1)
  where
    go : (b : Bool) → AreOrdered r (filter p xs) → AreOrdered r (cond b (x ∷ filter p xs) (filter p xs))
    go true k = (each_filter (λ y. r x y ≡ true) p xs h.0, k)
    go false k = k

ordered_map : {A B : Type 0} (r : A → A → Bool) (q : B → B → Bool) (f : A → B) → ((x y : A) → r x y ≡ true → q (f x) (f y) ≡ true) → (xs : List A) → AreOrdered r xs → AreOrdered q (map f xs)
ordered_map r q f g [] h = tt
ordered_map r q f g (x ∷ xs) h =
    (each_map (λ y. q (f x) y ≡ true) f xs (each_imp (λ y. r x y ≡ true) (λ y. q (f x) (f y) ≡ true) (λ y k. g x y k) xs h.0), ordered_map r q f g xs h.1)

ordered_at : {A : Type 0} (r : A → A → Bool) (xs : List A) (i j : ℕ) (s t : A) → AreOrdered r xs → slice_get xs i ≡ Some s → slice_get xs j ≡ Some t → i < j → r s t ≡ true
ordered_at r [] i j s t h es et lt = absurd (none es)
  where
    none : None ≡ Some s → ⊥
    none q = cc
ordered_at r (x ∷ xs) i zero s t h es et lt = absurd (omega arith)
ordered_at r (x ∷ xs) zero (suc j) s t h es et lt = let same : x ≡ s = cc in subst (λ y. r y t ≡ true) same (each_at (λ y. r x y ≡ true) xs j t h.0 et)
ordered_at r (x ∷ xs) (suc i) (suc j) s t h es et lt = ordered_at r xs i j s t h.1 es et (omega arith)

-- WITHIN A STEP

lower_is_earlier : (s t : StartAt) → s.trans.0 < t.trans.0 → is_earlier s t ≡ true
lower_is_earlier s t h = or_left (nat_lt s.trans.0 t.trans.0) ((s.trans.0 == t.trans.0) && nat_lt s.place t.place) (lt-ltb s.trans.0 t.trans.0 h)

place_is_earlier : (s t : StartAt) → s.trans.0 ≡ t.trans.0 → s.place < t.place → is_earlier s t ≡ true
place_is_earlier s t e h =
    or_right (nat_lt s.trans.0 t.trans.0) ((s.trans.0 == t.trans.0) && nat_lt s.place t.place)
    (and_true (s.trans.0 == t.trans.0) (nat_lt s.place t.place) (eq-eqb s.trans.0 t.trans.0 e) (lt-ltb s.place t.place h))

abbrev IsFrom : ℕ → ℕ → StartAt → Type 0
IsFrom t place s = (s.trans.0 ≡ t) × (place ≤ s.place)

further : (t place : ℕ) (s : StartAt) → IsFrom t (place + 1) s → IsFrom t place s
further t place s h = (h.0, omega (arith, h.1))

own_places : (t place : ℕ) (actions : List Action) → Each (IsFrom t place) (starts_from t place actions)
own_places t place [] = tt
own_places t place (Assign x value ∷ rest) = each_imp (IsFrom t (place + 1)) (IsFrom t place) (further t place) (starts_from t (place + 1) rest) (own_places t (place + 1) rest)
own_places t place (Raise e ∷ rest) = each_imp (IsFrom t (place + 1)) (IsFrom t place) (further t place) (starts_from t (place + 1) rest) (own_places t (place + 1) rest)
own_places t place (Start a ∷ rest) =
    ((refl, omega arith), each_imp (IsFrom t (place + 1)) (IsFrom t place) (further t place) (starts_from t (place + 1) rest) (own_places t (place + 1) rest))

actions_ordered : (t place : ℕ) (actions : List Action) → AreOrdered is_earlier (starts_from t place actions)
actions_ordered t place [] = tt
actions_ordered t place (Assign x value ∷ rest) = actions_ordered t (place + 1) rest
actions_ordered t place (Raise e ∷ rest) = actions_ordered t (place + 1) rest
actions_ordered t place (Start a ∷ rest) = (
  each_imp (IsFrom t (place + 1)) (λ s. is_earlier first s ≡ true) (λ s h. place_is_earlier first s (sym h.0) (omega (arith, h.1))) (starts_from t (place + 1) rest) (own_places t (place + 1) rest),
  actions_ordered t (place + 1) rest,
)
  where
    first : StartAt
    first = record { act = a; trans = record { 0 = t }; place = place }

module _ (chart : Chart) where
  abbrev started : ℕ → List StartAt
  started t = starts_from t 0 (actions_of chart t)

  own_transition : (t : ℕ) → Each (λ s. s.trans.0 ≡ t) (started t)
  own_transition t = each_imp (IsFrom t 0) (λ s. s.trans.0 ≡ t) (λ s h. h.0) (started t) (own_places t 0 (actions_of chart t))

  module _ (p : ℕ → Bool) where
    abbrev behind : ℕ → ℕ → List StartAt
    behind a n = flat_map started (filter p (range_with_len a n))

    lowest : (a n : ℕ) → Each (λ s. a ≤ s.trans.0) (behind a n)
    lowest a zero = tt
    lowest a (suc n) = go (p a) (each_imp (λ s. a + 1 ≤ s.trans.0) (λ s. a ≤ s.trans.0) (λ s h. omega (arith, h)) (behind (a + 1) n) (lowest (a + 1) n))
      where
        go : (b : Bool) → Each (λ s. a ≤ s.trans.0) (behind (a + 1) n) → Each (λ s. a ≤ s.trans.0) (flat_map started (cond b (a ∷ filter p (range_with_len (a + 1) n)) (filter p (range_with_len (a + 1) n))))
        go true h = each_append (λ s. a ≤ s.trans.0) (started a) (behind (a + 1) n) (each_imp (λ s. s.trans.0 ≡ a) (λ s. a ≤ s.trans.0) (λ s e. omega (arith, e)) (started a) (own_transition a)) h
        go false h = h

    transitions_ordered : (a n : ℕ) → AreOrdered is_earlier (behind a n)
    transitions_ordered a zero = tt
    transitions_ordered a (suc n) = go (p a) (transitions_ordered (a + 1) n)
      where
        go : (b : Bool) → AreOrdered is_earlier (behind (a + 1) n) → AreOrdered is_earlier (flat_map started (cond b (a ∷ filter p (range_with_len (a + 1) n)) (filter p (range_with_len (a + 1) n))))
        go true h = ordered_append is_earlier (started a) (behind (a + 1) n) (actions_ordered a 0 (actions_of chart a)) h
            (each_imp (λ s. s.trans.0 ≡ a) (λ s. Each (λ t. is_earlier s t ≡ true) (behind (a + 1) n))
            (λ s e. each_imp (λ t. a + 1 ≤ t.trans.0) (λ t. is_earlier s t ≡ true) (λ t h. lower_is_earlier s t (omega (arith, e, h))) (behind (a + 1) n) (lowest (a + 1) n))
            (started a) (own_transition a))
        go false h = h

  step_ordered : (u : ℕ) (c : CentralState) (entries : List Entry) → AreOrdered is_earlier (starts_at chart u c entries)
  unfolding fired_in
  step_ordered u c entries =
      let p = is_among (fired (first_of_scope chart (is_enabled chart (snapshot_of chart c entries))) c.configuration) in
      ordered_filter is_earlier (is_at chart u) (starts_of chart (fired_in chart c entries)) (transitions_ordered p 0 (length chart.transitions))

  -- STEP BY STEP

  earlier_step : (s t : StartIn) → s.step < t.step → is_before s t ≡ true
  earlier_step s t h = or_left (nat_lt s.step t.step) ((s.step == t.step) && is_earlier s.start t.start) (lt-ltb s.step t.step h)

  same_step : (k : ℕ) (s t : StartAt) → is_earlier s t ≡ true → is_before (in_step k s) (in_step k t) ≡ true
  same_step k s t h = or_right (nat_lt k k) ((k == k) && is_earlier s t) (and_true (k == k) (is_earlier s t) (eq-eqb k k refl) h)

  module _ (u : ℕ) where
    steps_behind : (c : CentralState) (steps : List (List Entry)) → Each (λ s. c.taken + 1 ≤ s.step) (starts_along chart u c steps)
    steps_behind c [] = tt
    steps_behind c (entries ∷ steps) =
        let k = c.taken + 1 in
        let next = next_state chart c entries in
        each_append (λ s. k ≤ s.step) (map (in_step k) (starts_at chart u c entries)) (starts_along chart u next steps)
        (each_map (λ s. k ≤ s.step) (in_step k) (starts_at chart u c entries) (all_each (λ s. k ≤ k) (λ s. omega arith) (starts_at chart u c entries)))
        (each_imp (λ s. next.taken + 1 ≤ s.step) (λ s. k ≤ s.step) (λ s h. omega (arith, h, next_taken chart c entries)) (starts_along chart u next steps) (steps_behind next steps))

    along_ordered : (c : CentralState) (steps : List (List Entry)) → AreOrdered is_before (starts_along chart u c steps)
    along_ordered c [] = tt
    along_ordered c (entries ∷ steps) =
        let k = c.taken + 1 in
        let next = next_state chart c entries in
        let later = starts_along chart u next steps in
        ordered_append is_before (map (in_step k) (starts_at chart u c entries)) later
        (ordered_map is_earlier is_before (in_step k) (same_step k) (starts_at chart u c entries) (step_ordered u c entries))
        (along_ordered next steps)
        (each_map (λ s. Each (λ t. is_before s t ≡ true) later) (in_step k) (starts_at chart u c entries)
        (all_each (λ s. Each (λ t. is_before (in_step k s) t ≡ true) later)
        (λ s. each_imp (λ t. next.taken + 1 ≤ t.step) (λ t. is_before (in_step k s) t ≡ true)
        (λ t h. earlier_step (in_step k s) t (omega (arith, h, next_taken chart c entries))) later (steps_behind next steps))
        (starts_at chart u c entries)))

    pub starts_in_order : (steps : List (List Entry)) (m n : ℕ) (s t : StartIn) → start_at (all_starts chart u steps) m ≡ Some s → start_at (all_starts chart u steps) n ≡ Some t → m < n → is_before s t ≡ true
    starts_in_order steps zero n s t es et lt = absurd (none es)
      where
        none : None ≡ Some s → ⊥
        none q = cc
    starts_in_order steps (suc m) zero s t es et lt = absurd (omega arith)
    starts_in_order steps (suc m) (suc n) s t es et lt = ordered_at is_before (all_starts chart u steps) m n s t (along_ordered (first_state chart) steps) es et (omega arith)

-- no start is before itself
not_before_itself : (s : StartIn) → is_before s s ≡ true → ⊥
not_before_itself s h = elim (or_cases (nat_lt s.step s.step) ((s.step == s.step) && is_earlier s.start s.start) h) [
  | inl a ↦ less s.step a
  | inr b ↦ elim (or_cases (nat_lt s.start.trans.0 s.start.trans.0) ((s.start.trans.0 == s.start.trans.0) && nat_lt s.start.place s.start.place) (and_both (s.step == s.step) (is_earlier s.start s.start) b).1) [
    | inl c ↦ less s.start.trans.0 c
    | inr d ↦ less s.start.place (and_both (s.start.trans.0 == s.start.trans.0) (nat_lt s.start.place s.start.place) d).1
  ]
]
  where
    less : (k : ℕ) → nat_lt k k ≡ true → ⊥
    less k e = let lt : k < k = ltb-true k k e in omega arith

-- two numbers have two starts
pub one_number : (chart : Chart) (u : ℕ) (steps : List (List Entry)) (m n : ℕ) (s t : StartIn) → start_at (all_starts chart u steps) m ≡ Some s → start_at (all_starts chart u steps) n ≡ Some t → s ≡ t → m ≡ n
one_number chart u steps m n s t es et e = go (nat_lt m n) refl (nat_lt n m) refl
  where
    go : (a : Bool) → nat_lt m n ≡ a → (b : Bool) → nat_lt n m ≡ b → m ≡ n
    go true p b q = absurd (not_before_itself s (subst (λ (x : StartIn). is_before s x ≡ true) (sym e) (starts_in_order chart u steps m n s t es et (ltb-true m n p))))
    go false p true q = absurd (not_before_itself t (subst (λ (x : StartIn). is_before t x ≡ true) e (starts_in_order chart u steps n m t s et es (ltb-true n m q))))
    go false p false q = omega (arith, ltb-false m n p, ltb-false n m q)
