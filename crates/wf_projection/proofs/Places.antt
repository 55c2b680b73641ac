-- The places of what each Turn sealed, by unit and by step.
use Rattle.std.proofs.Common.{◌≡◌, ℕ, zero, suc, ◌+◌, ◌-◌, ◌<◌, ◌≤◌, min, List, [], ◌∷◌, ◌++◌, map, flat_map, length, take, get_or, sum, Option, None, All, slice_get, unwrap_or, subst, refl, sym, ap, ap₂, ◌∙◌, arith}
use Rattle.std.specs.Prelude.{Result, Ok, Err, IfOk}
use Rattle.std.specs.List.{range_with_len}
use Rattle.std.proofs.lemmas.List.{get_or-map, length-map}
use Rattle.std.proofs.lemmas.Option.{unwrap_or-slice_get}
use Rattle.std.proofs.lemmas.List.FromFn.{map-range_with_len_more, length-map-range_with_len}
use Rattle.std.proofs.lemmas.List.Sums.{sum_by_more, sum_by_more_le}
use Rattle.wf_model.proofs.Rows.{row_at}
use Rattle.wf_machine.specs.declared.admission.Place.{Place}
use Rattle.wf_machine.specs.Server.{numbers_sealed}
use Rattle.wf_machine.specs.Machine.{place_of}
use Rattle.wf_machine.proofs.Stays.{sealed_number}
use Rattle.wf_histories.specs.Histories.{History, TurnDone, seals, taken}
use Rattle.wf_histories.specs.Agreement.{least_to, least_taken}
use Rattle.wf_histories.proofs.MergedList.{least_taken_below}
use Rattle.wf_worlds.specs.Growing.{Fits}
use Rattle.wf_steps.specs.Room.{Kept}
use Rattle.wf_projection.specs.Merged.{AreOf, places_at, turn_places, unit_places, AreTurns, merged_places}

-- HISTORIES

-- the history at a place is its unit's
pub history_at : (histories : List Kept) (h : ℕ → History) (u : ℕ) (kept : Kept) → AreOf histories h → u < length histories → kept ≡ get_or histories u kept → kept.past ≡ h u
history_at histories h u kept are lt is =
    ap (λ (k : Kept). k.past) is
    ∙ sym (get_or-map (λ (k : Kept). k.past) histories u kept (h u) lt)
    ∙ row_at h (length histories) u (h u) (map (λ k. k.past) histories) are lt

-- each seals no more than it has
pub all_fit : (histories : List Kept) (h : ℕ → History) → AreOf histories h → All (λ kept. Fits kept.past) histories → (u : ℕ) → u < length histories → Fits (h u)
all_fit histories h are fits u lt =
    let kept : Kept = record { past = h u; admit_room = 0; turn_room = 0 } in
    subst Fits (sym (get_or-map (λ (k : Kept). k.past) histories u kept (h u) lt) ∙ row_at h (length histories) u (h u) (map (λ k. k.past) histories) are lt) (fits u kept lt)

-- THE LEAST COUNT

-- a unit's Turns are as many as it took
pub long_at : (units : List (List (List Place))) (h : ℕ → History) (i : ℕ) (item : List (List Place)) → AreTurns units h → i < length units → item ≡ get_or units i item → length item ≡ taken (h i)
long_at units h i item are lt is =
    ap (λ (l : List (List Place)). length l) (is ∙ row_at (λ u. unit_places u (h u)) (length units) i item units are lt)
    ∙ length-map-range_with_len (turn_places i (h i)) 0 (taken (h i))

-- there are as many units as histories
pub units_long : (units : List (List (List Place))) (h : ℕ → History) (n : ℕ) → units ≡ map (λ u. unit_places u (h u)) (range_with_len 0 n) → length units ≡ n
units_long units h n is = ap (λ (l : List (List (List Place))). length l) is ∙ length-map-range_with_len (λ u. unit_places u (h u)) 0 n

pub turns_here : (units : List (List (List Place))) (h : ℕ → History) (n : ℕ) → units ≡ map (λ u. unit_places u (h u)) (range_with_len 0 n) → AreTurns units h
turns_here units h n is = is ∙ ap (λ (k : ℕ). map (λ u. unit_places u (h u)) (range_with_len 0 k)) (sym (units_long units h n is))

pub turns_taken : (kept h : History) (turns : List TurnDone) → turns ≡ kept.turns → kept ≡ h → length turns ≡ taken h
turns_taken kept h turns same is = ap length (same ∙ ap (λ (x : History). x.turns) is) ∙ sym (length-map h.turns (λ (turn : TurnDone). turn.sealed))

-- the least of the first n counts, that of the first one if n is 0
abbrev pub least_up : (ℕ → ℕ) → ℕ → ℕ
least_up f zero = f 0
least_up f (suc n) = least_to f n

pub least_more : (f : ℕ → ℕ) (n k : ℕ) → k ≡ f n → min (least_up f n) k ≡ least_up f (n + 1)
least_more f zero k e = omega (arith, e)
least_more f (suc n) k e = ap (λ (x : ℕ). min (least_to f n) x) e ∙ ap (least_up f) (let q : suc (suc n) ≡ suc n + 1 = omega arith in q)

pub least_all : (h : ℕ → History) (n : ℕ) → 0 < n → least_up (λ u. taken (h u)) n ≡ least_taken n h
least_all h zero lt = absurd (omega (arith, lt))
least_all h (suc n) lt = refl

-- THE PLACES OF ONE UNIT

-- one place more
pub place_more : (u before number : ℕ) (places : List Place) → before ≤ number → places ≡ map (place_of u) (range_with_len (before + 1) (number - before)) →
    places ++ place_of u (number + 1) ∷ [] ≡ map (place_of u) (range_with_len (before + 1) (number + 1 - before))
place_more u before number places le e =
    ap (λ (l : List Place). l ++ place_of u (number + 1) ∷ []) e
    ∙ sym (map-range_with_len_more (place_of u) (before + 1) (number - before) (number + 1) (omega (arith, le)))
    ∙ ap (λ (n : ℕ). map (place_of u) (range_with_len (before + 1) n)) (let q : number - before + 1 ≡ number + 1 - before = omega (arith, le) in q)

-- what a Turn sealed
pub sealed_is : (h : History) (turns : List TurnDone) (i : ℕ) (turn : TurnDone) → turns ≡ h.turns → i < length turns → turn ≡ get_or turns i turn → turn.sealed ≡ get_or (seals h) i 0
sealed_is h turns i turn same lt is =
    ap (λ (t : TurnDone). t.sealed) is
    ∙ sym (get_or-map (λ (t : TurnDone). t.sealed) turns i turn 0 lt)
    ∙ ap (λ (l : List TurnDone). get_or (map (λ t. t.sealed) l) i 0) same

pub turn_within : (h : History) (turns : List TurnDone) (i : ℕ) → turns ≡ h.turns → i < length turns → i < taken h
turn_within h turns i same lt = omega (arith, lt, ap length same, length-map h.turns (λ (turn : TurnDone). turn.sealed))

sealed_so_far : (h : History) (i : ℕ) → i < taken h → sum (take i (seals h)) + get_or (seals h) i 0 ≤ sum (seals h)
sealed_so_far h i lt = sum_by_more_le (λ (x : ℕ). x) (seals h) i 0 lt

pub sealed_more : (h : History) (i k : ℕ) → i < taken h → k ≡ get_or (seals h) i 0 → sum (take i (seals h)) + k ≡ sum (take (i + 1) (seals h))
sealed_more h i k lt e = ap (λ (n : ℕ). sum (take i (seals h)) + n) e ∙ sym (sum_by_more (λ (x : ℕ). x) (seals h) i 0 lt)

pub sealed_fits : (h : History) (i k : ℕ) → Fits h → i < taken h → k ≡ get_or (seals h) i 0 → sum (take i (seals h)) + k ≤ length h.admissions
sealed_fits h i k fits lt e = omega (arith, e, fits, sealed_so_far h i lt)

-- the places that a Turn sealed
pub turn_is : (u : ℕ) (h : History) (i k before last : ℕ) → before ≡ sum (take i (seals h)) → k ≡ get_or (seals h) i 0 → last ≡ before + k →
    map (place_of u) (range_with_len (before + 1) (last - before)) ≡ turn_places u h i
turn_is u h i k before last before_is k_is last_is =
    ap₂ (λ (a n : ℕ). map (place_of u) (range_with_len a n))
    (ap (λ (n : ℕ). n + 1) before_is)
    (let q : last - before ≡ k = omega (arith, last_is) in q ∙ k_is ∙ sym (sealed_number (seals h) i))
    ∙ ap (λ (j : ℕ). map (place_of u) (numbers_sealed (seals h) j)) (let q : suc i ≡ i + 1 = omega arith in q)

-- THE PLACES OF A STEP

pub none_there : (turns : List (List Place)) (at : ℕ) → None ≡ slice_get turns at → [] ≡ get_or turns at []
none_there turns at e = ap (λ (o : Option (List Place)). unwrap_or o []) e ∙ unwrap_or-slice_get turns at []

flat_row : {X B : Type 0} (f : X → List B) (g : ℕ → X) (k : ℕ → List B) (a n : ℕ) → ((i : ℕ) → a ≤ i → i < a + n → f (g i) ≡ k i) → flat_map f (map g (range_with_len a n)) ≡ flat_map k (range_with_len a n)
flat_row f g k a zero h = refl
flat_row {X} {B} f g k a (suc n) h = ap₂ (λ (xs ys : List B). xs ++ ys) (h a (omega arith) (omega arith)) (flat_row f g k (a + 1) n (λ i lo hi. h i (omega arith) (omega arith)))

-- what the Turns at a place sealed, in unit order
abbrev pub step_of : ℕ → (ℕ → History) → ℕ → List Place
step_of n h j = places_at n h (suc (suc (suc j)))

pub step_is : (n : ℕ) (h : ℕ → History) (j : ℕ) → j < least_taken n h → flat_map (λ turns. get_or turns j []) (map (λ u. unit_places u (h u)) (range_with_len 0 n)) ≡ step_of n h j
step_is n h j lt =
    flat_row (λ turns. get_or turns j []) (λ u. unit_places u (h u)) (λ u. map (place_of u) (numbers_sealed (seals (h u)) (suc j))) 0 n
    (λ u lo hi. row_at (turn_places u (h u)) (taken (h u)) j [] (unit_places u (h u)) refl (omega (arith, lt, least_taken_below n h u (omega (arith, hi))))
    ∙ ap (λ (i : ℕ). map (place_of u) (numbers_sealed (seals (h u)) i)) (let q : j + 1 ≡ suc j = omega arith in q))

-- THE LIST

none_at : {B : Type 0} (a n : ℕ) → flat_map (λ (u : ℕ). let none : List B = [] in none) (range_with_len a n) ≡ []
none_at a zero = refl
none_at {B} a (suc n) = none_at {B = B} (a + 1) n

shifted : {B : Type 0} (f : ℕ → B) (a n : ℕ) → map (λ j. f (suc (suc (suc j)))) (range_with_len a n) ≡ map f (range_with_len (a + 3) n)
shifted f a zero = refl
shifted {B} f a (suc n) =
    ap₂ (λ (x : B) (xs : List B). x ∷ xs) (ap f (let q : suc (suc (suc a)) ≡ a + 3 = omega arith in q))
    (shifted f (a + 1) n ∙ ap (λ (b : ℕ). map f (range_with_len b n)) (let q : a + 1 + 3 ≡ a + 3 + 1 = omega arith in q))

-- steps 1 and 2 are empty, and each Turn has a step
pub list_is : (n : ℕ) (h : ℕ → History) → [] ∷ [] ∷ map (step_of n h) (range_with_len 0 (least_taken n h)) ≡ merged_places n h
unfolding merged_places
list_is n h =
    ap₂ (λ (second : List Place) (more : List (List Place)). [] ∷ second ∷ more) (sym (none_at {B = Place} 0 n)) (shifted (places_at n h) 0 (least_taken n h))
    ∙ ap (λ (k : ℕ). map (places_at n h) (range_with_len 1 k)) (let q : suc (suc (least_taken n h)) ≡ least_taken n h + 2 = omega arith in q)

-- what follows from a fact on each value
pub if_ok : {A E : Type 0} (r : Result A E) (P Q : A → Type 0) → ((x : A) → P x → Q x) → IfOk r P → IfOk r Q
if_ok (Ok x) P Q follows p = follows x p
if_ok (Err e) P Q follows p = tt
