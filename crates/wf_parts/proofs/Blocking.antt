-- Rows of blockers as they are made, and how a part's transitions are numbered.
use Rattle.std.proofs.Common.{◌≡◌, ℕ, zero, suc, ◌+◌, ◌<◌, ◌≤◌, ◌==◌, ◌||◌, ◌&&◌, nat_lt, cond, Bool, true, false, List, [], ◌∷◌, ◌++◌, All, length, map, filter, take, get_or, set, refl, sym, ◌∙◌, ap, ap₂, subst, arith}
use Rattle.std.specs.List.{range_with_len, enumerate_from}
use Rattle.std.proofs.lemmas.List.{map_more, get_or-map, get_or_past}
use Rattle.std.proofs.lemmas.List.Folds.{list_any_more}
use Rattle.std.proofs.lemmas.List.Elements.{All-nil, All-cons, All-map, All-filter}
use Rattle.std.proofs.lemmas.Bool.Decides.{nat_tests}
use Rattle.wf_model.specs.Bits.{bit}
use Rattle.wf_model.specs.Limits.{max_transitions}
use Rattle.wf_model.specs.Ids.{trans_id}
use Rattle.wf_model.specs.Tree.{all_transitions}
use Rattle.wf_model.specs.declared.ids.TransId.{TransId}
use Rattle.wf_model.specs.declared.chart.Chart.{Chart}
use Rattle.wf_model.specs.declared.chart.Transition.{Transition}
use Rattle.wf_model.proofs.Rows.{put, row_at, row_set, row_agree}
use Rattle.wf_semantics.specs.Flat.{blocks, blockers}
use Rattle.wf_semantics.proofs.Facts.{chart_of}
use Rattle.wf_parts.specs.declared.data.PartTransition.{PartTransition}
use Rattle.wf_parts.specs.declared.data.PartData.{PartData}
use Rattle.wf_parts.specs.Components.{blocker_ids}
use Rattle.wf_parts.specs.Known.{concerns}
use Rattle.wf_parts.specs.Parts.{numbered, part_transition, part_of, IsPart}
use Rattle.wf_parts.specs.Rows.{names, IsNumbered}

or_put : (a b : Bool) → (a || b) ≡ cond b true a
or_put true true = refl
or_put true false = refl
or_put false true = refl
or_put false false = refl

-- the numbers that are named, one more
pub names_more : (ids : List TransId) (i n : ℕ) (d : TransId) (old new : List Bool) → i < length ids → (get_or ids i d).0 < n → old ≡ map (names (take i ids)) (range_with_len 0 n)
    → new ≡ set old (get_or ids i d).0 true → new ≡ map (names (take (i + 1) ids)) (range_with_len 0 n)
names_more ids i n d old new lt below before now =
    now ∙ row_set (names (take i ids)) n (get_or ids i d).0 true old before below
    ∙ row_agree (put (names (take i ids)) (get_or ids i d).0 true) (names (take (i + 1) ids)) n (λ k within. sym (step k))
  where
    step : (k : ℕ) → names (take (i + 1) ids) k ≡ cond (k == (get_or ids i d).0) true (names (take i ids) k)
    step k =
        let m = (get_or ids i d).0 in
        let turn : (m == k) ≡ (k == m) = grind (arith, nat_tests) in
        list_any_more (λ (x : TransId). x.0 == k) ids i d lt ∙ or_put (names (take i ids) k) (m == k) ∙ ap (λ (b : Bool). cond b true (names (take i ids) k)) turn

-- whether the transition at a place is named
pub named_at : (ids lent : List TransId) (transitions : List PartTransition) (numbers : List Bool) (i n : ℕ) (x : PartTransition) → lent ≡ ids → i < length transitions → x ≡ get_or transitions i x → x.id.0 < n
    → numbers ≡ map (names lent) (range_with_len 0 n) → bit (map (λ other. names ids other.id.0) transitions) i ≡ bit numbers x.id.0
named_at ids lent transitions numbers i n x same lt is below row =
    get_or-map (λ (other : PartTransition). names ids other.id.0) transitions i x false lt ∙ ap (λ (other : PartTransition). names ids other.id.0) (sym is)
    ∙ ap (λ (l : List TransId). names l x.id.0) (sym same) ∙ sym (row_at (names lent) n x.id.0 false numbers row below)

-- past its end no bit is set
pub all_places : (truths : List Bool) (at n : ℕ) → length truths ≤ at → map (λ j. nat_lt j at && bit truths j) (range_with_len 0 n) ≡ map (bit truths) (range_with_len 0 n)
all_places truths at n long = row_agree (λ j. nat_lt j at && bit truths j) (bit truths) n (λ j within. go j (nat_lt j at) refl)
  where
    go : (j : ℕ) (b : Bool) → nat_lt j at ≡ b → (b && bit truths j) ≡ bit truths j
    go j true e = refl
    go j false e = let past : length truths ≤ j = grind (arith, nat_tests) in sym (get_or_past truths j false past)

-- a list with one item more
pub map_step : {A B : Type 0} (h : A → B) (xs : List A) (i : ℕ) (x : A) (y : B) (old new : List B) → i < length xs → x ≡ get_or xs i x → y ≡ h x → old ≡ map h (take i xs) → new ≡ old ++ y ∷ []
    → new ≡ map h (take (i + 1) xs)
map_step {B = B} h xs i x y old new lt is here before now =
    now ∙ ap₂ (λ (l : List B) (z : B). l ++ z ∷ []) before (here ∙ ap h is) ∙ sym (map_more h xs i x lt)

-- THE NUMBERS OF A PART'S TRANSITIONS

few_kept : {A : Type 0} (test : ℕ → Bool) (a : ℕ) (xs : List A) → length (filter (λ x. test x.0) (enumerate_from a xs)) ≤ length xs
few_kept test a [] = omega arith
few_kept {A} test a (x ∷ xs) = go (test a) (few_kept test (a + 1) xs)
  where
    go : (b : Bool) → length (filter (λ x. test x.0) (enumerate_from (a + 1) xs)) ≤ length xs
        → length (cond b ((a, x) ∷ filter (λ x. test x.0) (enumerate_from (a + 1) xs)) (filter (λ x. test x.0) (enumerate_from (a + 1) xs))) ≤ suc (length xs)
    go true h = omega arith
    go false h = omega arith

pub length_mapped : {A B : Type 0} (f : A → B) (xs : List A) → length (map f xs) ≡ length xs
length_mapped f [] = refl
length_mapped f (x ∷ xs) = ap suc (length_mapped f xs)

all_below : {A : Type 0} (n a : ℕ) (xs : List A) → a + length xs ≤ n → All (λ (x : ℕ × A). x.0 < n) (enumerate_from a xs)
all_below {A} n a [] le = All-nil (λ (x : ℕ × A). x.0 < n)
all_below {A} n a (x ∷ xs) le = All-cons (λ (x : ℕ × A). x.0 < n) (a, x) (enumerate_from (a + 1) xs) (omega arith) (all_below n (a + 1) xs (omega arith))

range_below : (n a len : ℕ) → a + len ≤ n → All (λ t. t < n) (range_with_len a len)
range_below n a zero le = All-nil (λ t. t < n)
range_below n a (suc len) le = All-cons (λ t. t < n) a (range_with_len (a + 1) len) (omega arith) (range_below n (a + 1) len (omega arith))

blockers_below : (chart : Chart) (t : ℕ) → length chart.transitions ≤ max_transitions → All (λ id. id.0 < max_transitions) (blocker_ids chart t)
blockers_below chart t few =
    All-map (λ (id : TransId). id.0 < max_transitions) trans_id (blockers chart t)
    (All-filter (λ b. blocks chart b t) (λ b. b < max_transitions) (all_transitions chart) (range_below max_transitions 0 (length chart.transitions) (omega arith)))

few_of : (chart : Chart) (u : ℕ) → length chart.transitions ≤ max_transitions → length (part_of chart u).transitions ≤ max_transitions
unfolding part_of
few_of chart u few =
    let made = length_mapped (part_transition chart u) (numbered (concerns chart u) chart.transitions) in
    let kept = few_kept (concerns chart u) 0 chart.transitions in
    omega arith

numbered_of : (chart : Chart) (u : ℕ) → length chart.transitions ≤ max_transitions → All IsNumbered (part_of chart u).transitions
unfolding part_of
numbered_of chart u few =
    All-map IsNumbered (part_transition chart u) (numbered (concerns chart u) chart.transitions)
    (All-filter (λ (x : ℕ × Transition). concerns chart u x.0) (λ x. IsNumbered (part_transition chart u x)) (enumerate_from 0 chart.transitions)
    (Rattle.std.proofs.lemmas.List.Elements.All-weaker (λ (x : ℕ × Transition). x.0 < max_transitions) (λ x. IsNumbered (part_transition chart u x)) (λ x lt. record { here = lt; blockers = blockers_below chart x.0 few })
    (enumerate_from 0 chart.transitions) (all_below max_transitions 0 chart.transitions (omega arith))))

pub few_in_part : (part : PartData) → IsPart part → length part.transitions ≤ max_transitions
few_in_part part is =
    subst (λ (p : PartData). length p.transitions ≤ max_transitions) (sym is.is) (few_of is.chart is.unit (chart_of is.chart is.accepted).few_transitions)

pub numbered_in_part : (part : PartData) → IsPart part → All IsNumbered part.transitions
numbered_in_part part is =
    subst (λ (p : PartData). All IsNumbered p.transitions) (sym is.is) (numbered_of is.chart is.unit (chart_of is.chart is.accepted).few_transitions)
