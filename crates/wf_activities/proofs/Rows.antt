-- Lists that have an entry for each number below n: `map f (range_with_len 0 n)`.
use Rattle.std.proofs.Common.{◌≡◌, ℕ, zero, suc, ◌+◌, ◌<◌, List, [], ◌∷◌, ◌++◌, length, map, get_or, replicate, refl, sym, ◌∙◌, ap, arith}
use Rattle.std.specs.List.{range_with_len}
use Rattle.std.proofs.lemmas.List.FromFn.{map-range_with_len_more, get_or-map-range_with_len, length-map-range_with_len}

-- one entry more
pub row_more : {A : Type 0} (f : ℕ → A) (i : ℕ) (xs : List A) (x : A) → xs ≡ map f (range_with_len 0 i) → x ≡ f i → xs ++ x ∷ [] ≡ map f (range_with_len 0 (i + 1))
row_more f i xs x e h = rw (e, h) (sym (map-range_with_len_more f 0 i i (omega arith)))

-- an entry
pub row_at : {A : Type 0} (f : ℕ → A) (n i : ℕ) (d : A) (xs : List A) → xs ≡ map f (range_with_len 0 n) → i < n → get_or xs i d ≡ f i
row_at f n i d xs e h = rw e (get_or-map-range_with_len f 0 n i i d h (omega arith))

pub row_len : {A : Type 0} (f : ℕ → A) (n : ℕ) (xs : List A) → xs ≡ map f (range_with_len 0 n) → length xs ≡ n
row_len f n xs e = rw e (length-map-range_with_len f 0 n)

made_from : {A : Type 0} (f : ℕ → A) (d : A) (a : ℕ) (xs : List A) → ((i : ℕ) → i < length xs → get_or xs i d ≡ f (a + i)) → xs ≡ map f (range_with_len a (length xs))
made_from f d a [] h = refl
made_from {A} f d a (x ∷ xs) h =
    let none : a + 0 ≡ a = omega arith in
    let here : x ≡ f a = h 0 (omega arith) ∙ ap f none in
    let rest : xs ≡ map f (range_with_len (a + 1) (length xs)) =
    made_from f d (a + 1) xs (λ i lt. h (suc i) (omega arith) ∙ ap f (next i)) in
    ap (λ (y : A). y ∷ xs) here ∙ ap (λ (ys : List A). f a ∷ ys) rest
  where
    next : (i : ℕ) → a + suc i ≡ (a + 1) + i
    next i = omega arith

-- a list is told by its entries
pub row_made : {A : Type 0} (f : ℕ → A) (d : A) (n : ℕ) (xs : List A) → length xs ≡ n → ((i : ℕ) → i < n → get_or xs i d ≡ f i) → xs ≡ map f (range_with_len 0 n)
row_made f d n xs e h =
    made_from f d 0 xs (λ i lt. h i (omega arith) ∙ ap f (same i)) ∙ ap (λ (m : ℕ). map f (range_with_len 0 m)) e
  where
    same : (i : ℕ) → i ≡ 0 + i
    same i = omega arith

-- one more of the same
pub replicate_more : {A : Type 0} (x : A) (n : ℕ) → replicate n x ++ x ∷ [] ≡ replicate (n + 1) x
replicate_more x n = go n ∙ ap (λ (m : ℕ). replicate m x) (next n)
  where
    next : (n : ℕ) → suc n ≡ n + 1
    next n = omega arith

    go : (n : ℕ) → replicate n x ++ x ∷ [] ≡ replicate (suc n) x
    go zero = refl
    go (suc n) = ap (λ l. x ∷ l) (go n)

pub get_replicate : {A : Type 0} (x : A) (n i : ℕ) → get_or (replicate n x) i x ≡ x
get_replicate x zero i = refl
get_replicate x (suc n) zero = refl
get_replicate x (suc n) (suc i) = get_replicate x n i
