-- Items of a list whose numbers pass a test, one more at a time.
use Rattle.std.proofs.Common.{◌≡◌, ℕ, ◌+◌, ◌<◌, Bool, true, false, cond, List, [], ◌∷◌, ◌++◌, length, map, filter, take, get_or, refl, sym, ◌∙◌, ap, arith, append-nil}
use Rattle.std.specs.List.{enumerate_from}
use Rattle.std.proofs.lemmas.List.{take_more, length-take-le, take_all}
use Rattle.std.proofs.lemmas.List.Elements.{filter-append}
use Rattle.wf_parts.specs.Parts.{numbered}

enumerate-append : {A : Type 0} (a : ℕ) (xs ys : List A) → enumerate_from a (xs ++ ys) ≡ enumerate_from a xs ++ enumerate_from (a + length xs) ys
enumerate-append {A} a [] ys = let e : a ≡ a + length {A = A} [] = omega arith in ap (λ n. enumerate_from n ys) e
enumerate-append {A} a (x ∷ xs) ys =
    let e : a + 1 + length xs ≡ a + length (x ∷ xs) = omega arith in
    ap (λ (l : List (ℕ × A)). (a, x) ∷ l) (enumerate-append (a + 1) xs ys ∙ ap (λ n. enumerate_from (a + 1) xs ++ enumerate_from n ys) e)

-- one item more
numbered_more : {A : Type 0} (test : ℕ → Bool) (xs : List A) (i : ℕ) (x : A) → i < length xs → x ≡ get_or xs i x
    → numbered test (take (i + 1) xs) ≡ numbered test (take i xs) ++ cond (test i) ((i, x) ∷ []) []
numbered_more {A} test xs i x lt is =
    let n : 0 + length (take i xs) ≡ i = omega (arith, length-take-le i xs (omega arith)) in
    ap (numbered test) (take_more xs i x lt ∙ ap (λ (y : A). take i xs ++ y ∷ []) (sym is))
    ∙ ap (filter (λ (p : ℕ × A). test p.0)) (enumerate-append 0 (take i xs) (x ∷ []))
    ∙ filter-append (λ (p : ℕ × A). test p.0) (enumerate_from 0 (take i xs)) (enumerate_from (0 + length (take i xs)) (x ∷ []))
    ∙ ap (λ k. numbered test (take i xs) ++ filter (λ (p : ℕ × A). test p.0) (enumerate_from k (x ∷ []))) n

map_append : {A B : Type 0} (f : A → B) (xs ys : List A) → map f (xs ++ ys) ≡ map f xs ++ map f ys
map_append f [] ys = refl
map_append {A} {B} f (x ∷ xs) ys = ap (λ (l : List B). f x ∷ l) (map_append f xs ys)

-- an item whose number passes
pub kept : {A B : Type 0} (f : ℕ × A → B) (test : ℕ → Bool) (xs : List A) (i : ℕ) (x : A) (y : B) (old new : List B) → i < length xs → x ≡ get_or xs i x → test i ≡ true → y ≡ f (i, x)
    → old ≡ map f (numbered test (take i xs)) → new ≡ old ++ y ∷ [] → new ≡ map f (numbered test (take (i + 1) xs))
kept {A} {B} f test xs i x y old new lt is on made before now =
    now ∙ ap (λ (l : List B). l ++ y ∷ []) before ∙ ap (λ (z : B). map f (numbered test (take i xs)) ++ z ∷ []) made
    ∙ sym (map_append f (numbered test (take i xs)) ((i, x) ∷ []))
    ∙ ap (map f) (ap (λ (b : Bool). numbered test (take i xs) ++ cond b ((i, x) ∷ []) []) (sym on) ∙ sym (numbered_more test xs i x lt is))

-- an item whose number doesn't
pub left_out : {A B : Type 0} (f : ℕ × A → B) (test : ℕ → Bool) (xs : List A) (i : ℕ) (x : A) (old : List B) → i < length xs → x ≡ get_or xs i x → test i ≡ false
    → old ≡ map f (numbered test (take i xs)) → old ≡ map f (numbered test (take (i + 1) xs))
left_out {A} f test xs i x old lt is off before =
    before ∙ ap (map f) (sym (append-nil (numbered test (take i xs))) ∙ ap (λ (b : Bool). numbered test (take i xs) ++ cond b ((i, x) ∷ []) []) (sym off) ∙ sym (numbered_more test xs i x lt is))

-- all items
pub all_kept : {A B : Type 0} (f : ℕ × A → B) (test : ℕ → Bool) (xs : List A) (i : ℕ) (old : List B) → length xs ≡ i → old ≡ map f (numbered test (take i xs)) → old ≡ map f (numbered test xs)
all_kept {A} f test xs i old all before = before ∙ ap (λ (l : List A). map f (numbered test l)) (take_all i xs (omega arith))

agree_from : {A : Type 0} (p q : ℕ → Bool) (a : ℕ) (xs : List A) → ((i : ℕ) → i < a + length xs → p i ≡ q i)
    → filter (λ (x : ℕ × A). p x.0) (enumerate_from a xs) ≡ filter (λ (x : ℕ × A). q x.0) (enumerate_from a xs)
agree_from p q a [] h = refl
agree_from {A} p q a (x ∷ xs) h =
    ap (λ (b : Bool). cond b ((a, x) ∷ filter (λ (y : ℕ × A). p y.0) (enumerate_from (a + 1) xs)) (filter (λ (y : ℕ × A). p y.0) (enumerate_from (a + 1) xs))) (h a (omega arith))
    ∙ ap (λ (l : List (ℕ × A)). cond (q a) ((a, x) ∷ l) l) (agree_from p q (a + 1) xs (λ i lt. h i (omega arith)))

-- tests that agree on the numbers of the items
pub numbered_agree : {A : Type 0} (p q : ℕ → Bool) (xs : List A) → ((i : ℕ) → i < length xs → p i ≡ q i) → numbered p xs ≡ numbered q xs
numbered_agree p q xs h = agree_from p q 0 xs (λ i lt. h i (omega arith))
