-- The entries at the places of the merged list.
use Rattle.std.proofs.Common.{◌≡◌, ℕ, zero, suc, ◌+◌, ◌<◌, ◌≤◌, Option, Some, List, [], ◌∷◌, ◌++◌, map, flat_map, length, take, drop, get_or, sum, slice_get, inl, inr, refl, sym, ap, ap₂, ◌∙◌, arith}
use Rattle.std.specs.Option.{option_map}
use Rattle.std.specs.List.{range_with_len}
use Rattle.std.proofs.lemmas.List.{map-append, get_or_past}
use Rattle.std.proofs.lemmas.List.Sums.{sum_by_more_le, sum_by-take-le}
use Rattle.wf_semantics.proofs.Children.{lt_or_ge}
use Rattle.wf_model.specs.declared.chart.Chart.{Chart}
use Rattle.wf_model.specs.declared.outer.Entry.{Entry}
use Rattle.wf_machine.specs.declared.admission.Place.{Place}
use Rattle.wf_machine.specs.Server.{numbers_sealed}
use Rattle.wf_machine.specs.Machine.{place_of}
use Rattle.wf_machine.proofs.Stays.{sealed_number}
use Rattle.wf_histories.specs.Histories.{Admission, History, seals, sealed_by}
use Rattle.wf_histories.specs.Agreement.{least_taken, entry, merged_entries}
use Rattle.wf_histories.specs.Laws.{AreLean}
use Rattle.wf_histories.proofs.Lets.{central_law}
use Rattle.wf_worlds.specs.Growing.{Fits}
use Rattle.wf_projection.specs.Merged.{places_at, merged_places, numbered, entry_at, IsCentralAt}

-- what is sealed up to a Turn is no more than all
sum_next : (xs : List ℕ) (i : ℕ) → sum (take i xs) + get_or xs i 0 ≤ sum xs
sum_next xs i =
    elim (lt_or_ge i (length xs)) [
      | inl lt ↦ sum_by_more_le (λ (x : ℕ). x) xs i 0 lt
      | inr ge ↦ let none : get_or xs i 0 ≡ 0 = get_or_past xs i 0 ge in let some : sum (take i xs) ≤ sum xs = sum_by-take-le (λ (x : ℕ). x) xs i in omega (arith, none, some)
    ]

-- one admission more
at_front : {A : Type 0} (xs : List A) (s : ℕ) → s < length xs → (x : A) × (slice_get xs s ≡ Some x) × (drop s xs ≡ x ∷ drop (suc s) xs)
at_front [] s lt = absurd (omega (arith, lt))
at_front (x ∷ xs) zero lt = (x, refl, refl)
at_front (x ∷ xs) (suc s) lt = let w = at_front xs s (omega (arith, lt)) in (w.0, w.1, w.2)

numbered_next : (xs : List Admission) (s : ℕ) → numbered xs (s + 1) ≡ slice_get xs s
numbered_next xs s = ap (numbered xs) (let q : s + 1 ≡ suc s = omega arith in q)

-- the admissions with the numbers after s
numbered_from : (xs : List Admission) (s k : ℕ) → s + k ≤ length xs → map (numbered xs) (range_with_len (s + 1) k) ≡ map Some (take k (drop s xs))
numbered_from xs s zero le = refl
numbered_from xs s (suc k) le =
    let w = at_front xs s (omega (arith, le)) in
    ap₂ (λ (a : Option Admission) (l : List (Option Admission)). a ∷ l) (numbered_next xs s ∙ w.1)
    (numbered_from xs (s + 1) k (omega (arith, le)) ∙ ap (λ (n : ℕ). map Some (take k (drop n xs))) (let q : s + 1 ≡ suc s = omega arith in q))
    ∙ ap (λ (l : List Admission). map Some (take (suc k) l)) (sym w.2)

placed : (h : ℕ → History) (u : ℕ) (numbers : List ℕ) → map (entry_at h) (map (place_of u) numbers) ≡ map (option_map (λ a. entry u a.outer)) (map (numbered (h u).admissions) numbers)
placed h u [] = refl
placed h u (n ∷ ns) = ap (λ (l : List (Option Entry)). option_map (λ a. entry u a.outer) (numbered (h u).admissions n) ∷ l) (placed h u ns)

some_entries : (u : ℕ) (xs : List Admission) → map (option_map (λ a. entry u a.outer)) (map Some xs) ≡ map Some (map (entry u) (map (λ a. a.outer) xs))
some_entries u [] = refl
some_entries u (x ∷ xs) = ap (λ (l : List (Option Entry)). Some (entry u x.outer) ∷ l) (some_entries u xs)

-- the entries at the places that a Turn sealed
sealed_entries : (h : ℕ → History) (u j : ℕ) → Fits (h u) → map (entry_at h) (map (place_of u) (numbers_sealed (seals (h u)) j)) ≡ map Some (map (entry u) (sealed_by (h u) j))
unfolding sealed_by
sealed_entries h u zero fits = refl
sealed_entries h u (suc i) fits =
    let xs = (h u).admissions in
    let s = sum (take i (seals (h u))) in
    placed h u (numbers_sealed (seals (h u)) (suc i))
    ∙ ap (λ (k : ℕ). map (option_map (λ a. entry u a.outer)) (map (numbered xs) (range_with_len (s + 1) k))) (sealed_number (seals (h u)) i)
    ∙ ap (map (option_map (λ a. entry u a.outer))) (numbered_from xs s (get_or (seals (h u)) i 0) (omega (arith, fits, sum_next (seals (h u)) i)))
    ∙ some_entries u (take (get_or (seals (h u)) i 0) (drop s xs))

units_entries : (h : ℕ → History) (j a n : ℕ) → ((u : ℕ) → a ≤ u → u < a + n → Fits (h u)) →
    map (entry_at h) (flat_map (λ u. map (place_of u) (numbers_sealed (seals (h u)) j)) (range_with_len a n)) ≡ map Some (flat_map (λ u. map (entry u) (sealed_by (h u) j)) (range_with_len a n))
units_entries h j a zero fits = refl
units_entries h j a (suc n) fits =
    map-append (entry_at h) (map (place_of a) (numbers_sealed (seals (h a)) j)) (flat_map (λ u. map (place_of u) (numbers_sealed (seals (h u)) j)) (range_with_len (a + 1) n))
    ∙ ap₂ (λ (xs ys : List (Option Entry)). xs ++ ys) (sealed_entries h a j (fits a (omega arith) (omega arith))) (units_entries h j (a + 1) n (λ u lo hi. fits u (omega arith) (omega arith)))
    ∙ sym (map-append Some (map (entry a) (sealed_by (h a) j)) (flat_map (λ u. map (entry u) (sealed_by (h u) j)) (range_with_len (a + 1) n)))

step_entries : (n : ℕ) (h : ℕ → History) (k : ℕ) → ((u : ℕ) → u < n → Fits (h u)) → map (entry_at h) (places_at n h k) ≡ map Some (merged_entries n h k)
step_entries n h zero fits = refl
step_entries n h (suc zero) fits = refl
step_entries n h (suc (suc j)) fits = units_entries h j 0 n (λ u lo hi. fits u (omega (arith, hi)))

all_entries : (n : ℕ) (h : ℕ → History) (ks : List ℕ) → ((u : ℕ) → u < n → Fits (h u)) → map (map (entry_at h)) (map (places_at n h) ks) ≡ map (map Some) (map (merged_entries n h) ks)
all_entries n h [] fits = refl
all_entries n h (k ∷ ks) fits = ap₂ (λ (x : List (Option Entry)) (xs : List (List (Option Entry))). x ∷ xs) (step_entries n h k fits) (all_entries n h ks fits)

-- the entries at the places of the merged list are the merged list, and the central law holds of them
pub central_at : (chart : Chart) (h : ℕ → History) (places : List (List Place)) → ((u : ℕ) → u < length chart.units → Fits (h u)) → AreLean chart h → places ≡ merged_places (length chart.units) h → IsCentralAt chart h places
unfolding merged_places
central_at chart h places fits lean is =
    record {
      entries = ap (map (map (entry_at h))) is ∙ all_entries (length chart.units) h (range_with_len 1 (least_taken (length chart.units) h + 2)) fits;
      central = central_law chart h lean;
    }
