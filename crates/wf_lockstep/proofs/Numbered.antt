-- Numbered items as what is at the numbers that pass, and filters and searches over these.
use Rattle.std.proofs.Common.{◌≡◌, ℕ, suc, ◌+◌, ◌<◌, ◌≤◌, ◌==◌, ◌&&◌, cond, Bool, true, false, List, [], ◌∷◌, ◌++◌, length, map, filter, flat_map, find, Option, Some, None, unwrap_or, slice_get, inl, inr, refl, sym, ap, ap₂, ◌∙◌, subst, arith, eqb-true}
use Rattle.std.specs.Prelude.{option_map}
use Rattle.std.specs.List.{range_with_len, enumerate_from}
use Rattle.wf_model.proofs.Bools.{Mem}
use Rattle.wf_semantics.proofs.Lists.{mem_range, mem_filter, range_mem, filter_mem}
use Rattle.wf_parts.specs.Parts.{numbered}
use Rattle.wf_views.proofs.Listing.{find_map}

-- what f makes of item t of a list, and d t where there is none
abbrev pub at_number : {A B : Type 0} → (ℕ × A → B) → (ℕ → B) → List A → ℕ → B
at_number f d xs t = unwrap_or (option_map (λ x. f (t, x)) (slice_get xs t)) (d t)

numbered_from : {A B : Type 0} (f : ℕ × A → B) (g : ℕ → B) (test : ℕ → Bool) (k : ℕ) (xs : List A) → ((i : ℕ) (x : A) → slice_get xs i ≡ Some x → g (k + i) ≡ f (k + i, x)) →
    map f (filter (λ x. test x.0) (enumerate_from k xs)) ≡ map g (filter test (range_with_len k (length xs)))
numbered_from f g test k [] h = refl
numbered_from {A} {B} f g test k (x ∷ xs) h =
    let here : k + 0 ≡ k = omega arith in
    go (test k) (subst (λ (n : ℕ). g n ≡ f (n, x)) here (h 0 x refl))
    (numbered_from f g test (k + 1) xs (λ i y e. let there : k + suc i ≡ k + 1 + i = omega arith in subst (λ (n : ℕ). g n ≡ f (n, y)) there (h (suc i) y e)))
  where
    go : (b : Bool) → g k ≡ f (k, x) → map f (filter (λ x. test x.0) (enumerate_from (k + 1) xs)) ≡ map g (filter test (range_with_len (k + 1) (length xs))) →
        map f (cond b ((k, x) ∷ filter (λ x. test x.0) (enumerate_from (k + 1) xs)) (filter (λ x. test x.0) (enumerate_from (k + 1) xs)))
        ≡ map g (cond b (k ∷ filter test (range_with_len (k + 1) (length xs))) (filter test (range_with_len (k + 1) (length xs))))
    go true e ih = ap₂ (λ (y : B) (ys : List B). y ∷ ys) (sym e) ih
    go false e ih = ih

pub numbered_at : {A B : Type 0} (f : ℕ × A → B) (d : ℕ → B) (test : ℕ → Bool) (xs : List A) → map f (numbered test xs) ≡ map (at_number f d xs) (filter test (range_with_len 0 (length xs)))
numbered_at {A} {B} f d test xs = numbered_from f (at_number f d xs) test 0 xs (λ i x e.
    let plus : i ≡ 0 + i = omega arith in
    subst (λ (n : ℕ). at_number f d xs n ≡ f (n, x)) plus (ap (λ (o : Option A). unwrap_or (option_map (λ x. f (i, x)) o) (d i)) e))

-- a test of numbers
pub mem_numbers : (test : ℕ → Bool) (n t : ℕ) → t < n → test t ≡ true → Mem t (filter test (range_with_len 0 n))
mem_numbers test n t lt h = mem_filter test (range_with_len 0 n) t (mem_range 0 n t (omega arith) (omega arith)) h

pub numbers_mem : (test : ℕ → Bool) (n t : ℕ) → Mem t (filter test (range_with_len 0 n)) → (t < n) × (test t ≡ true)
numbers_mem test n t m = let f = filter_mem test (range_with_len 0 n) t m in let r = range_mem 0 n t f.0 in (omega arith, f.1)

-- who isn't in the list isn't found
pub find_map_none : {A : Type 0} (f : ℕ → A) (id : A → ℕ) → ((t : ℕ) → id (f t) ≡ t) → (ts : List ℕ) (t : ℕ) → (Mem t ts → ⊥) → find (λ p. id p == t) (map f ts) ≡ None
find_map_none f id h [] t m = refl
find_map_none {A} f id h (x ∷ ts) t m = go (id (f x) == t) refl (find_map_none f id h ts t (λ w. m (inr w)))
  where
    go : (b : Bool) → (id (f x) == t) ≡ b → find (λ p. id p == t) (map f ts) ≡ None → cond b (Some (f x)) (find (λ p. id p == t) (map f ts)) ≡ None
    go true e ih = absurd (m (inl (sym (h x) ∙ eqb-true (id (f x)) t e)))
    go false e ih = ih

pub find_past : {A : Type 0} (f : ℕ → A) (id : A → ℕ) → ((t : ℕ) → id (f t) ≡ t) → (test : ℕ → Bool) (n t : ℕ) → n ≤ t → find (λ p. id p == t) (map f (filter test (range_with_len 0 n))) ≡ None
find_past f id h test n t le = find_map_none f id h (filter test (range_with_len 0 n)) t (λ m. let r = numbers_mem test n t m in omega (arith, r.0, le))

pub find_at : {A : Type 0} (f : ℕ → A) (id : A → ℕ) → ((t : ℕ) → id (f t) ≡ t) → (test : ℕ → Bool) (n t : ℕ) → t < n → test t ≡ true → find (λ p. id p == t) (map f (filter test (range_with_len 0 n))) ≡ Some (f t)
find_at f id h test n t lt e = find_map f id h (filter test (range_with_len 0 n)) t (mem_numbers test n t lt e)

pub filter_map_swap : {A B : Type 0} (f : B → A) (p : A → Bool) (ts : List B) → filter p (map f ts) ≡ map f (filter (λ t. p (f t)) ts)
filter_map_swap f p [] = refl
filter_map_swap {A} {B} f p (x ∷ ts) = go (p (f x)) (filter_map_swap f p ts)
  where
    go : (b : Bool) → filter p (map f ts) ≡ map f (filter (λ t. p (f t)) ts) → cond b (f x ∷ filter p (map f ts)) (filter p (map f ts)) ≡ map f (cond b (x ∷ filter (λ t. p (f t)) ts) (filter (λ t. p (f t)) ts))
    go true ih = ap (λ (l : List A). f x ∷ l) ih
    go false ih = ih

pub filter_filter : {A : Type 0} (p q : A → Bool) (xs : List A) → filter p (filter q xs) ≡ filter (λ x. p x && q x) xs
filter_filter p q [] = refl
filter_filter {A} p q (x ∷ xs) = go (q x) (p x) (filter_filter p q xs) refl
  where
    go : (b a : Bool) → filter p (filter q xs) ≡ filter (λ x. p x && q x) xs → p x ≡ a → filter p (cond b (x ∷ filter q xs) (filter q xs)) ≡ cond (a && b) (x ∷ filter (λ x. p x && q x) xs) (filter (λ x. p x && q x) xs)
    go true true ih e = rw e (ap (λ (l : List A). x ∷ l) ih)
    go true false ih e = rw e ih
    go false true ih e = ih
    go false false ih e = ih

pub flat_agree : {B : Type 0} (f g : ℕ → List B) (xs : List ℕ) → ((x : ℕ) → Mem x xs → f x ≡ g x) → flat_map f xs ≡ flat_map g xs
flat_agree f g [] h = refl
flat_agree {B} f g (x ∷ xs) h = ap₂ (λ (a b : List B). a ++ b) (h x (inl refl)) (flat_agree f g xs (λ y m. h y (inr m)))
