-- The children of all states, as they are gathered state by state.
use Rattle.std.proofs.Common.{◌≡◌, ◌≢◌, ℕ, zero, suc, ◌+◌, ◌<◌, ◌≤◌, ◌⊎◌, ◌==◌, cond, Bool, true, false, List, [], ◌∷◌, ◌++◌, length, map, filter, get_or, set, Some, None, refl, sym, ◌∙◌, ap, arith, inl, inr, append-nil, eq-eqb}
use Rattle.std.specs.List.{range_with_len}
use Rattle.std.proofs.lemmas.Bool.Decides.{nat_tests}
use Rattle.std.proofs.lemmas.List.Elements.{filter-append}
use Rattle.std.proofs.lemmas.List.FromFn.{map-range_with_len_more}
use Rattle.wf_model.specs.declared.chart.Chart.{Chart}
use Rattle.wf_model.specs.Tree.{parent, children, all_states, is_child_of}
use Rattle.wf_print.specs.States.{children_of}

-- the children of state q among the first so many states
abbrev pub children_below : Chart → ℕ → ℕ → List ℕ
children_below chart s q = filter (λ k. is_child_of q (parent chart k)) (range_with_len 0 s)

-- by state: its children among the first so many states
abbrev pub gathered : Chart → ℕ → List (List ℕ)
gathered chart s = map (children_below chart s) (all_states chart)

pub gathered_all : (chart : Chart) → gathered chart (length chart.states) ≡ children_of chart
unfolding children_of children
gathered_all chart = refl

pub gathered_none : (chart : Chart) → map (λ _. []) (all_states chart) ≡ gathered chart 0
gathered_none chart = refl

map_same : (xs : List ℕ) → map (λ x. x) xs ≡ xs
map_same [] = refl
map_same (x ∷ xs) = ap (λ (l : List ℕ). x ∷ l) (map_same xs)

-- one number more
pub range_more : (i : ℕ) → range_with_len 0 (i + 1) ≡ range_with_len 0 i ++ i ∷ []
range_more i =
    sym (map_same (range_with_len 0 (i + 1))) ∙ map-range_with_len_more (λ x. x) 0 i i (omega arith) ∙ ap (λ l. l ++ i ∷ []) (map_same (range_with_len 0 i))

below-more : (chart : Chart) (s q : ℕ) → children_below chart (s + 1) q ≡ children_below chart s q ++ cond (is_child_of q (parent chart s)) (s ∷ []) []
below-more chart s q =
    ap (filter (λ k. is_child_of q (parent chart k))) (range_more s) ∙ filter-append (λ k. is_child_of q (parent chart k)) (range_with_len 0 s) (s ∷ [])

below-other : (chart : Chart) (s q : ℕ) → is_child_of q (parent chart s) ≡ false → children_below chart (s + 1) q ≡ children_below chart s q
below-other chart s q other =
    below-more chart s q ∙ ap (λ (b : Bool). children_below chart s q ++ cond b (s ∷ []) []) other ∙ append-nil (children_below chart s q)

below-child : (chart : Chart) (s q : ℕ) → is_child_of q (parent chart s) ≡ true → children_below chart (s + 1) q ≡ children_below chart s q ++ s ∷ []
below-child chart s q child = below-more chart s q ∙ ap (λ (b : Bool). children_below chart s q ++ cond b (s ∷ []) []) child

-- two rows with the same items
agree : {A : Type 0} (f g : ℕ → A) (a n : ℕ) → ((i : ℕ) → i < a + n → f i ≡ g i) → map f (range_with_len a n) ≡ map g (range_with_len a n)
agree f g a zero same = refl
agree f g a (suc n) same =
    rw (same a (omega arith)) (ap (λ xs. g a ∷ xs) (agree f g (a + 1) n (λ i within. same i (omega arith))))

pub at_row : {A : Type 0} (f : ℕ → A) (a n k : ℕ) (d : A) → k < n → get_or (map f (range_with_len a n)) k d ≡ f (a + k)
at_row f a zero k d within = absurd (omega arith)
at_row f a (suc n) zero d within = let here : a ≡ a + 0 = omega arith in ap f here
at_row f a (suc n) (suc k) d within = let there : a + 1 + k ≡ a + suc k = omega arith in at_row f (a + 1) n k d (omega arith) ∙ ap f there

-- one item set in a row
set_row : {A : Type 0} (f g : ℕ → A) (a n k : ℕ) → k < n → ((i : ℕ) → i ≢ a + k → f i ≡ g i) → set (map f (range_with_len a n)) k (g (a + k)) ≡ map g (range_with_len a n)
set_row f g a zero k within others = absurd (omega arith)
set_row f g a (suc n) zero within others =
    let here : a + 0 ≡ a = omega arith in
    rw here (ap (λ xs. g a ∷ xs) (later (a + 1) n (omega arith)))
  where
    later : (b m : ℕ) → a < b → map f (range_with_len b m) ≡ map g (range_with_len b m)
    later b zero above = refl
    later b (suc m) above = rw (others b (omega arith)) (ap (λ xs. g b ∷ xs) (later (b + 1) m (omega arith)))
set_row f g a (suc n) (suc k) within others =
    let there : a + suc k ≡ a + 1 + k = omega arith in
    rw (others a (omega arith), there) (ap (λ xs. g a ∷ xs) (set_row f g (a + 1) n k (omega arith) (λ i other. others i (omega arith))))

set_past : {A : Type 0} (xs : List A) (k : ℕ) (x : A) → length xs ≤ k → set xs k x ≡ xs
set_past [] k x past = refl
set_past (y ∷ xs) zero x past = absurd (omega arith)
set_past (y ∷ xs) (suc k) x past = ap (λ ys. y ∷ ys) (set_past xs k x (omega arith))

length_row : {A : Type 0} (f : ℕ → A) (a n : ℕ) → length (map f (range_with_len a n)) ≡ n
length_row f a zero = refl
length_row f a (suc n) = let more = length_row f (a + 1) n in omega arith

lt_or_ge : (a b : ℕ) → (a < b) ⊎ (b ≤ a)
lt_or_ge a b = grind arith

no_child : (chart : Chart) (s p i : ℕ) → parent chart s ≡ Some p → i ≢ p → is_child_of i (parent chart s) ≡ false
no_child chart s p i up other = ap (is_child_of i) up ∙ (let e : (p == i) ≡ false = grind (arith, nat_tests) in e)

-- a state without a parent is no child
pub gathered_root : (chart : Chart) (s : ℕ) → parent chart s ≡ None → gathered chart s ≡ gathered chart (s + 1)
gathered_root chart s top =
    agree (children_below chart s) (children_below chart (s + 1)) 0 (length chart.states) (λ q within. sym (below-other chart s q (ap (is_child_of q) top)))

-- a state is one more child of its parent
pub gathered_child : (chart : Chart) (s p : ℕ) → parent chart s ≡ Some p
    → set (gathered chart s) p (get_or (gathered chart s) p [] ++ s ∷ []) ≡ gathered chart (s + 1)
gathered_child chart s p up = elim (lt_or_ge p (length chart.states)) [
  | inl within ↦
      let zeros : 0 + p ≡ p = omega arith in
      let old : get_or (gathered chart s) p [] ≡ children_below chart s p = at_row (children_below chart s) 0 (length chart.states) p [] within ∙ ap (children_below chart s) zeros in
      let new : get_or (gathered chart s) p [] ++ s ∷ [] ≡ children_below chart (s + 1) (0 + p) =
      ap (λ (l : List ℕ). l ++ s ∷ []) old ∙ sym (below-child chart s p (ap (is_child_of p) up ∙ eq-eqb p p refl)) ∙ ap (children_below chart (s + 1)) (sym zeros) in
      ap (set (gathered chart s) p) new
      ∙ set_row (children_below chart s) (children_below chart (s + 1)) 0 (length chart.states) p within
      (λ i other. sym (below-other chart s i (no_child chart s p i up (omega arith))))
  | inr past ↦
      let long = length_row (children_below chart s) 0 (length chart.states) in
      set_past (gathered chart s) p (get_or (gathered chart s) p [] ++ s ∷ []) (omega arith)
      ∙ agree (children_below chart s) (children_below chart (s + 1)) 0 (length chart.states)
      (λ i within. sym (below-other chart s i (no_child chart s p i up (omega arith))))
]
