-- Lists that have an entry for each number below n: `map f (range_with_len 0 n)`.
use Rattle.std.proofs.Common.{◌≡◌, ◌≢◌, ℕ, zero, suc, ◌+◌, ◌<◌, ◌≤◌, ◌==◌, false, cond, List, [], ◌∷◌, ◌++◌, length, map, get_or, set, Some, refl, sym, ◌∙◌, ap, arith, eq-eqb}
use Rattle.std.specs.List.{range_with_len, slice_get}
use Rattle.std.proofs.lemmas.List.FromFn.{map-range_with_len_more, get_or-map-range_with_len, length-map-range_with_len}
use Rattle.std.proofs.lemmas.Bool.Decides.{nat_tests}

-- one entry more
pub row_more : {A : Type 0} (f : ℕ → A) (i : ℕ) (xs : List A) (x : A) → xs ≡ map f (range_with_len 0 i) → x ≡ f i → xs ++ x ∷ [] ≡ map f (range_with_len 0 (i + 1))
row_more f i xs x e h = rw (e, h) (sym (map-range_with_len_more f 0 i i (omega arith)))

-- an entry
pub row_at : {A : Type 0} (f : ℕ → A) (n i : ℕ) (d : A) (xs : List A) → xs ≡ map f (range_with_len 0 n) → i < n → get_or xs i d ≡ f i
row_at f n i d xs e h = rw e (get_or-map-range_with_len f 0 n i i d h (omega arith))

get_from : {A : Type 0} (f : ℕ → A) (a n i : ℕ) → i < n → slice_get (map f (range_with_len a n)) i ≡ Some (f (a + i))
get_from f a zero i h = absurd (omega arith)
get_from f a (suc n) zero h = let e : a + 0 ≡ a = omega arith in rw e refl
get_from f a (suc n) (suc i) h = let e : a + 1 + i ≡ a + suc i = omega arith in get_from f (a + 1) n i (omega arith) ∙ rw e refl

pub row_get : {A : Type 0} (f : ℕ → A) (n i : ℕ) (xs : List A) → xs ≡ map f (range_with_len 0 n) → i < n → slice_get xs i ≡ Some (f i)
row_get f n i xs e h = let z : 0 + i ≡ i = omega arith in rw e (get_from f 0 n i h ∙ rw z refl)

pub row_len : {A : Type 0} (f : ℕ → A) (n : ℕ) (xs : List A) → xs ≡ map f (range_with_len 0 n) → length xs ≡ n
row_len f n xs e = rw e (length-map-range_with_len f 0 n)

-- two rows with the same entries
agree_from : {A : Type 0} (f g : ℕ → A) (a n : ℕ) → ((i : ℕ) → a ≤ i → i < a + n → f i ≡ g i) → map f (range_with_len a n) ≡ map g (range_with_len a n)
agree_from f g a zero h = refl
agree_from f g a (suc n) h =
    rw (h a (omega arith) (omega arith)) (ap (λ xs. g a ∷ xs) (agree_from f g (a + 1) n (λ i lo hi. h i (omega arith) (omega arith))))

pub row_agree : {A : Type 0} (f g : ℕ → A) (n : ℕ) → ((i : ℕ) → i < n → f i ≡ g i) → map f (range_with_len 0 n) ≡ map g (range_with_len 0 n)
row_agree f g n h = agree_from f g 0 n (λ i lo hi. h i (omega arith))

-- an entry set
abbrev pub put : {A : Type 0} → (ℕ → A) → ℕ → A → ℕ → A
put f k x i = cond (i == k) x (f i)

put_same : {A : Type 0} (f : ℕ → A) (k i : ℕ) (x : A) → i ≡ k → put f k x i ≡ x
put_same f k i x e = rw (eq-eqb i k e) refl

put_other : {A : Type 0} (f : ℕ → A) (k i : ℕ) (x : A) → i ≢ k → put f k x i ≡ f i
put_other f k i x h = let e : (i == k) ≡ false = grind (arith, nat_tests) in rw e refl

set_from : {A : Type 0} (f : ℕ → A) (a n k : ℕ) (x : A) → k < n → set (map f (range_with_len a n)) k x ≡ map (put f (a + k) x) (range_with_len a n)
set_from f a zero k x h = absurd (omega arith)
set_from f a (suc n) zero x h =
    let here : a ≡ a + 0 = omega arith in
    rw (put_same f (a + 0) a x here) (ap (λ xs. x ∷ xs) (agree_from f (put f (a + 0) x) (a + 1) n (λ i lo hi. sym (put_other f (a + 0) i x (omega arith)))))
set_from f a (suc n) (suc k) x h =
    let e : a + 1 + k ≡ a + suc k = omega arith in
    rw (put_other f (a + suc k) a x (omega arith)) (ap (λ xs. f a ∷ xs) (set_from f (a + 1) n k x (omega arith) ∙ rw e refl))

pub row_set : {A : Type 0} (f : ℕ → A) (n k : ℕ) (x : A) (xs : List A) → xs ≡ map f (range_with_len 0 n) → k < n → set xs k x ≡ map (put f k x) (range_with_len 0 n)
row_set f n k x xs e h = let z : 0 + k ≡ k = omega arith in rw e (set_from f 0 n k x h ∙ rw z refl)

map_same : (xs : List ℕ) → map (λ x. x) xs ≡ xs
map_same [] = refl
map_same (x ∷ xs) = ap (λ (l : List ℕ). x ∷ l) (map_same xs)

-- one number more
pub range_more : (i : ℕ) → range_with_len 0 (i + 1) ≡ range_with_len 0 i ++ i ∷ []
range_more i =
    sym (map_same (range_with_len 0 (i + 1))) ∙ map-range_with_len_more (λ x. x) 0 i i (omega arith) ∙ ap (λ l. l ++ i ∷ []) (map_same (range_with_len 0 i))
