-- The merged list as far as it goes.
use Rattle.std.proofs.Common.{◌≡◌, ℕ, zero, suc, ◌+◌, ◌<◌, ◌≤◌, ◌==◌, ◌⊎◌, cond, min, Bool, List, [], ◌∷◌, ◌++◌, map, flat_map, length, inl, inr, refl, sym, ap, ap₂, ◌∙◌, subst, arith, eqb-true, eq-eqb}
use Rattle.std.specs.List.{range_with_len}
use Rattle.std.proofs.lemmas.List.{append-nil}
use Rattle.std.proofs.lemmas.List.FromFn.{get_or-map-range_with_len, length-map-range_with_len}
use Rattle.std.proofs.lemmas.List.Elements.{filter-append}
use Rattle.wf_model.specs.declared.outer.Outer.{Outer}
use Rattle.wf_model.specs.declared.outer.Entry.{Entry}
use Rattle.wf_model.proofs.Bools.{not_true}
use Rattle.wf_semantics.proofs.Lists.{range_mem}
use Rattle.wf_semantics.proofs.Children.{lt_or_ge}
use Rattle.wf_lockstep.specs.Shares.{entries_at, entries_to, outers_to, by_units}
use Rattle.wf_lockstep.proofs.Numbered.{flat_agree}
use Rattle.wf_lockstep.proofs.LockHolds.{past_end}
use Rattle.wf_histories.specs.Histories.{History, taken, sealed_by}
use Rattle.wf_histories.specs.Agreement.{least_to, least_taken, entry, merged_entries, merged_list}

-- THE LEAST COUNT

pub least_is : (f : ℕ → ℕ) (n : ℕ) → (u : ℕ) × (u ≤ n) × (least_to f n ≡ f u)
least_is f zero = (0, omega arith, refl)
least_is f (suc n) = go (least_is f n) (lt_or_ge (least_to f n) (f (suc n)))
  where
    go : ((u : ℕ) × (u ≤ n) × (least_to f n ≡ f u)) → (least_to f n < f (suc n)) ⊎ (f (suc n) ≤ least_to f n) → (u : ℕ) × (u ≤ suc n) × (min (least_to f n) (f (suc n)) ≡ f u)
    go w c = elim c [
      | inl l ↦ (w.0, omega (arith, w.1), omega (arith, w.2))
      | inr g ↦ (suc n, omega arith, omega arith)
    ]

least_below : (f : ℕ → ℕ) (n u : ℕ) → u ≤ n → least_to f n ≤ f u
least_below f zero u l = let e : u ≡ 0 = omega arith in omega (arith, ap f e)
least_below f (suc n) u l = go (lt_or_ge n u) (λ k. least_below f n u k)
  where
    go : (n < u) ⊎ (u ≤ n) → (u ≤ n → least_to f n ≤ f u) → min (least_to f n) (f (suc n)) ≤ f u
    go c ih = elim c [
      | inl k ↦ let e : u ≡ suc n = omega arith in omega (arith, ap f e)
      | inr k ↦ omega (arith, ih k)
    ]

pub least_taken_below : (n : ℕ) (h : ℕ → History) (u : ℕ) → u < n → least_taken n h ≤ taken (h u)
least_taken_below zero h u lt = absurd (omega arith)
least_taken_below (suc n) h u lt = least_below (λ v. taken (h v)) n u (omega arith)

-- where all counts are near each other, none is over the least + 1
pub near_least : (n : ℕ) (h : ℕ → History) → ((u v : ℕ) → u < n → v < n → taken (h u) ≤ taken (h v) + 1) → (u : ℕ) → u < n → taken (h u) ≤ least_taken n h + 1
near_least zero h near u lt = absurd (omega arith)
near_least (suc n) h near u lt = let w = least_is (λ u. taken (h u)) n in omega (arith, w.2, near u w.0 lt (omega (arith, w.1)))

-- THE LIST

pub merged_long : (n : ℕ) (h : ℕ → History) → length (merged_list n h) ≡ least_taken n h + 2
merged_long n h = length-map-range_with_len (merged_entries n h) 1 (least_taken n h + 2)

pub at_merged : (n : ℕ) (h : ℕ → History) (k : ℕ) → k ≤ least_taken n h + 2 → entries_at (merged_list n h) k ≡ merged_entries n h k
at_merged n h zero l = refl
at_merged n h (suc i) l = get_or-map-range_with_len (merged_entries n h) 1 (least_taken n h + 2) i (suc i) [] (omega arith) (omega arith)

pub merged_first : (n : ℕ) (h : ℕ → History) → entries_at (merged_list n h) 1 ≡ []
merged_first n h = at_merged n h 1 (omega arith)

-- ENTRIES OF ONE UNIT

own_entries : (u : ℕ) (os : List Outer) → entries_to u (map (entry u) os) ≡ map (entry u) os
own_entries u [] = refl
own_entries u (o ∷ os) =
    ap (λ (b : Bool). cond b (entry u o ∷ entries_to u (map (entry u) os)) (entries_to u (map (entry u) os))) (eq-eqb u u refl)
    ∙ ap (λ (l : List Entry). entry u o ∷ l) (own_entries u os)

other_entries : (u v : ℕ) (os : List Outer) → (v ≡ u → ⊥) → entries_to u (map (entry v) os) ≡ []
other_entries u v [] ne = refl
other_entries u v (o ∷ os) ne =
    ap (λ (b : Bool). cond b (entry v o ∷ entries_to u (map (entry v) os)) (entries_to u (map (entry v) os))) (not_true (v == u) (λ q. ne (eqb-true v u q)))
    ∙ other_entries u v os ne

entries_both : (u : ℕ) (xs ys : List Entry) → entries_to u (xs ++ ys) ≡ entries_to u xs ++ entries_to u ys
entries_both u xs ys = filter-append (λ x. x.unit.0 == u) xs ys

no_entries : (f : ℕ → List Outer) (u a n : ℕ) → u < a → entries_to u (flat_map (λ v. map (entry v) (f v)) (range_with_len a n)) ≡ []
no_entries f u a zero l = refl
no_entries f u a (suc n) l =
    entries_both u (map (entry a) (f a)) (flat_map (λ v. map (entry v) (f v)) (range_with_len (a + 1) n))
    ∙ ap₂ (λ (xs ys : List Entry). xs ++ ys) (other_entries u a (f a) (λ q. omega arith)) (no_entries f u (a + 1) n (omega arith))

entries_cut : (f : ℕ → List Outer) (u a n : ℕ) → a ≤ u → u < a + n → entries_to u (flat_map (λ v. map (entry v) (f v)) (range_with_len a n)) ≡ map (entry u) (f u)
entries_cut f u a zero l m = absurd (omega arith)
entries_cut f u a (suc n) l m =
    entries_both u (map (entry a) (f a)) (flat_map (λ v. map (entry v) (f v)) (range_with_len (a + 1) n))
    ∙ go (lt_or_ge a u) (λ k. entries_cut f u (a + 1) n (omega arith) (omega arith))
  where
    rest : List Entry
    rest = entries_to u (flat_map (λ v. map (entry v) (f v)) (range_with_len (a + 1) n))

    go : (a < u) ⊎ (u ≤ a) → (a < u → rest ≡ map (entry u) (f u)) → entries_to u (map (entry a) (f a)) ++ rest ≡ map (entry u) (f u)
    go c ih = elim c [
      | inl k ↦ ap₂ (λ (xs ys : List Entry). xs ++ ys) (other_entries u a (f a) (λ q. omega arith)) (ih k)
      | inr g ↦ let q : a ≡ u = omega arith in
          ap₂ (λ (xs ys : List Entry). xs ++ ys) (subst (λ (x : ℕ). entries_to u (map (entry x) (f x)) ≡ map (entry u) (f u)) (sym q) (own_entries u (f u))) (no_entries f u (a + 1) n (omega arith))
          ∙ append-nil (map (entry u) (f u))
    ]

outers_back : (u : ℕ) (os : List Outer) → map (λ x. x.outer) (map (entry u) os) ≡ os
outers_back u [] = refl
outers_back u (o ∷ os) = ap (λ (l : List Outer). o ∷ l) (outers_back u os)

-- u's outers of E_(j + 2) are what its Turn j sealed
pub outers_own : (n : ℕ) (h : ℕ → History) (u j : ℕ) → u < n → outers_to u (merged_entries n h (suc (suc j))) ≡ sealed_by (h u) j
outers_own n h u j lt = ap (map (λ (x : Entry). x.outer)) (entries_cut (λ v. sealed_by (h v) j) u 0 n (omega arith) (omega arith)) ∙ outers_back u (sealed_by (h u) j)

no_units : (us : List ℕ) → flat_map (λ u. entries_to u []) us ≡ []
no_units [] = refl
no_units (u ∷ us) = no_units us

merged_ordered : (n : ℕ) (h : ℕ → History) (k : ℕ) → by_units n (merged_entries n h k) ≡ merged_entries n h k
merged_ordered n h zero = no_units (range_with_len 0 n)
merged_ordered n h (suc zero) = no_units (range_with_len 0 n)
merged_ordered n h (suc (suc j)) =
    flat_agree (λ u. entries_to u (merged_entries n h (suc (suc j)))) (λ u. map (entry u) (sealed_by (h u) j)) (range_with_len 0 n)
    (λ u m. let r = range_mem 0 n u m in entries_cut (λ v. sealed_by (h v) j) u 0 n (omega arith) (omega arith))

pub list_ordered : (n : ℕ) (h : ℕ → History) (k : ℕ) → by_units n (entries_at (merged_list n h) k) ≡ entries_at (merged_list n h) k
list_ordered n h k = go (lt_or_ge (least_taken n h + 2) k)
  where
    go : (least_taken n h + 2 < k) ⊎ (k ≤ least_taken n h + 2) → by_units n (entries_at (merged_list n h) k) ≡ entries_at (merged_list n h) k
    go c = elim c [
      | inl g ↦ subst (λ (es : List Entry). by_units n es ≡ es) (sym (beyond k g)) (no_units (range_with_len 0 n))
      | inr l ↦ subst (λ (es : List Entry). by_units n es ≡ es) (sym (at_merged n h k l)) (merged_ordered n h k)
    ]
      where
        beyond : (k : ℕ) → least_taken n h + 2 < k → entries_at (merged_list n h) k ≡ []
        beyond zero g = refl
        beyond (suc i) g = past_end (merged_list n h) i (omega (arith, merged_long n h))
