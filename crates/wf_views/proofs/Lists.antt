-- Filters and maps over lists of what has a number.
use Rattle.std.proofs.Common.{◌≡◌, ℕ, zero, suc, ◌+◌, ◌<◌, ◌≤◌, ◌==◌, ◌||◌, ◌&&◌, nat_lt, cond, Bool, true, false, List, [], ◌∷◌, length, map, filter, filter_map, Option, inl, inr, refl, sym, ap, ap₂, ◌∙◌, arith, eqb-true, eq-eqb, true≢false}
use Rattle.std.specs.List.{list_any, list_all, range_with_len, enumerate_from, cons_option}
use Rattle.std.proofs.lemmas.Bool.Decides.{nat_tests}
use Rattle.wf_model.specs.Tree.{is_among}
use Rattle.wf_model.proofs.Bools.{Mem, or_left, or_right, and_both}

pub map_map : {A B C : Type 0} (f : B → C) (g : A → B) (xs : List A) → map f (map g xs) ≡ map (λ x. f (g x)) xs
map_map f g [] = refl
map_map {C = C} f g (x ∷ xs) = ap (λ (ys : List C). f (g x) ∷ ys) (map_map f g xs)

pub map_agree : {B : Type 0} (f g : ℕ → B) (xs : List ℕ) → ((x : ℕ) → Mem x xs → f x ≡ g x) → map f xs ≡ map g xs
map_agree f g [] h = refl
map_agree {B} f g (x ∷ xs) h = ap₂ (λ (y : B) (ys : List B). y ∷ ys) (h x (inl refl)) (map_agree f g xs (λ y m. h y (inr m)))

pub map_same : {A B : Type 0} (f g : A → B) → ((x : A) → f x ≡ g x) → (xs : List A) → map f xs ≡ map g xs
map_same f g h [] = refl
map_same {B = B} f g h (x ∷ xs) = ap₂ (λ (y : B) (ys : List B). y ∷ ys) (h x) (map_same f g h xs)

-- two maps that agree on all whose numbers pass a test, which those of the list do
pub map_known : {A B : Type 0} (id : A → ℕ) (known : ℕ → Bool) (f g : A → B) → ((x : A) → known (id x) ≡ true → f x ≡ g x) → (xs : List A) →
    ((n : ℕ) → list_any (λ y. id y == n) xs ≡ true → known n ≡ true) → map f xs ≡ map g xs
map_known id known f g same [] h = refl
map_known {B = B} id known f g same (x ∷ xs) h =
    ap₂ (λ (y : B) (ys : List B). y ∷ ys) (same x (h (id x) (or_left (id x == id x) (list_any (λ y. id y == id x) xs) (eq-eqb (id x) (id x) refl))))
    (map_known id known f g same xs (λ n e. h n (or_right (id x == n) (list_any (λ y. id y == n) xs) e)))

pub filter_known : {A : Type 0} (id : A → ℕ) (known : ℕ → Bool) (p q : A → Bool) → ((x : A) → known (id x) ≡ true → p x ≡ q x) → (xs : List A) →
    ((n : ℕ) → list_any (λ y. id y == n) xs ≡ true → known n ≡ true) → filter p xs ≡ filter q xs
filter_known id known p q same [] h = refl
filter_known {A} id known p q same (x ∷ xs) h =
    ap₂ (λ (b : Bool) (ys : List A). cond b (x ∷ ys) ys) (same x (h (id x) (or_left (id x == id x) (list_any (λ y. id y == id x) xs) (eq-eqb (id x) (id x) refl))))
    (filter_known id known p q same xs (λ n e. h n (or_right (id x == n) (list_any (λ y. id y == n) xs) e)))

pub filter_same : {A : Type 0} (p q : A → Bool) → ((x : A) → p x ≡ q x) → (xs : List A) → filter p xs ≡ filter q xs
filter_same p q h [] = refl
filter_same {A} p q h (x ∷ xs) = ap₂ (λ (b : Bool) (ys : List A). cond b (x ∷ ys) ys) (h x) (filter_same p q h xs)

-- a test that implies another one
pub filter_within : {A : Type 0} (p q : A → Bool) → ((x : A) → p x ≡ true → q x ≡ true) → (xs : List A) → filter p (filter q xs) ≡ filter p xs
filter_within p q h [] = refl
filter_within {A} p q h (x ∷ xs) = go (p x) refl (q x) refl (filter_within p q h xs)
  where
    go : (a : Bool) → p x ≡ a → (b : Bool) → q x ≡ b → filter p (filter q xs) ≡ filter p xs → filter p (cond b (x ∷ filter q xs) (filter q xs)) ≡ cond a (x ∷ filter p xs) (filter p xs)
    go a e true f ih = ap₂ (λ (c : Bool) (ys : List A). cond c (x ∷ ys) ys) e ih
    go false e false f ih = ih
    go true e false f ih = absurd (true≢false (sym (h x e) ∙ f))

-- two tests that agree on what passes a third, which all do
pub filter_all : {A : Type 0} (m p q : A → Bool) → ((x : A) → m x ≡ true → p x ≡ q x) → (xs : List A) → list_all m xs ≡ true → filter p xs ≡ filter q xs
filter_all m p q h [] all = refl
filter_all {A} m p q h (x ∷ xs) all =
    let both = and_both (m x) (list_all m xs) all in
    ap₂ (λ (b : Bool) (ys : List A). cond b (x ∷ ys) ys) (h x both.0) (filter_all m p q h xs both.1)

pub any_all : {A : Type 0} (m p q : A → Bool) → ((x : A) → m x ≡ true → p x ≡ q x) → (xs : List A) → list_all m xs ≡ true → list_any p xs ≡ list_any q xs
any_all m p q h [] all = refl
any_all m p q h (x ∷ xs) all =
    let both = and_both (m x) (list_all m xs) all in
    ap₂ (λ (a b : Bool). a || b) (h x both.0) (any_all m p q h xs both.1)

pub filter_map_all : {A B : Type 0} (m : A → Bool) (p q : A → Option B) → ((x : A) → m x ≡ true → p x ≡ q x) → (xs : List A) → list_all m xs ≡ true → filter_map p xs ≡ filter_map q xs
filter_map_all m p q h [] all = refl
filter_map_all {B = B} m p q h (x ∷ xs) all =
    let both = and_both (m x) (list_all m xs) all in
    ap₂ (λ (o : Option B) (ys : List B). cons_option o ys) (h x both.0) (filter_map_all m p q h xs both.1)

-- the numbers of a filtered range
pub among_range : (test : ℕ → Bool) (a n s : ℕ) → a ≤ s → is_among (filter test (range_with_len a n)) s ≡ (nat_lt s (a + n) && test s)
among_range test a zero s le = ap (λ (b : Bool). b && test s) (sym (let off : nat_lt s (a + 0) ≡ false = grind (arith, nat_tests) in off))
among_range test a (suc n) s le = go (test a) refl (a == s) refl (λ ne. among_range test (a + 1) n s (omega (arith, ne)))
  where
    rest : List ℕ
    rest = filter test (range_with_len (a + 1) n)

    before : (k t : ℕ) → a < k → t ≡ a → is_among (filter test (range_with_len k n)) t ≡ false
    before k t lt e = none n k lt
      where
        none : (m k : ℕ) → a < k → is_among (filter test (range_with_len k m)) t ≡ false
        none zero k l = refl
        none (suc m) k l = step (test k) (none m (k + 1) (omega arith))
          where
            step : (b : Bool) → is_among (filter test (range_with_len (k + 1) m)) t ≡ false → is_among (cond b (k ∷ filter test (range_with_len (k + 1) m)) (filter test (range_with_len (k + 1) m))) t ≡ false
            step true ih = let off : (k == t) ≡ false = grind (arith, nat_tests) in rw off ih
            step false ih = ih

    go : (b : Bool) → test a ≡ b → (c : Bool) → (a == s) ≡ c → ((a ≡ s → ⊥) → is_among rest s ≡ (nat_lt s (a + 1 + n) && test s)) → is_among (cond b (a ∷ rest) rest) s ≡ (nat_lt s (a + suc n) && test s)
    go b e true f ih =
        let at : a ≡ s = eqb-true a s f in
        let lt : nat_lt s (a + suc n) ≡ true = grind (arith, nat_tests) in
        let off : is_among rest s ≡ false = before (a + 1) s (omega arith) (sym at) in
        here b e f off ∙ sym e ∙ ap test at ∙ sym (ap (λ (c : Bool). c && test s) lt)
      where
        here : (b : Bool) → test a ≡ b → (a == s) ≡ true → is_among rest s ≡ false → is_among (cond b (a ∷ rest) rest) s ≡ b
        here true e f off = rw f refl
        here false e f off = off
    go b e false f ih =
        let ne : a ≡ s → ⊥ = λ q. true≢false (sym (eq-eqb a s q) ∙ f) in
        let same : nat_lt s (a + 1 + n) ≡ nat_lt s (a + suc n) = ap (nat_lt s) (let q : a + 1 + n ≡ a + suc n = omega arith in q) in
        there b ∙ ih ne ∙ ap (λ (c : Bool). c && test s) same
      where
        there : (b : Bool) → is_among (cond b (a ∷ rest) rest) s ≡ is_among rest s
        there true = rw f refl
        there false = refl

-- and of filtered items of a list
pub among_numbered : {A : Type 0} (test : ℕ → Bool) (a : ℕ) (xs : List A) (s : ℕ) → list_any (λ x. x.0 == s) (filter (λ x. test x.0) (enumerate_from a xs)) ≡ is_among (filter test (range_with_len a (length xs))) s
among_numbered test a [] s = refl
among_numbered {A} test a (x ∷ xs) s = go (test a) (among_numbered test (a + 1) xs s)
  where
    go : (b : Bool) → list_any (λ x. x.0 == s) (filter (λ x. test x.0) (enumerate_from (a + 1) xs)) ≡ is_among (filter test (range_with_len (a + 1) (length xs))) s →
        list_any (λ y. y.0 == s) (cond b ((a, x) ∷ filter (λ y. test y.0) (enumerate_from (a + 1) xs)) (filter (λ y. test y.0) (enumerate_from (a + 1) xs)))
        ≡ is_among (cond b (a ∷ filter test (range_with_len (a + 1) (length xs))) (filter test (range_with_len (a + 1) (length xs)))) s
    go true ih = ap (λ (c : Bool). (a == s) || c) ih
    go false ih = ih
