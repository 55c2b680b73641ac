-- Bits that are set one by one.
use Rattle.std.proofs.Common.{◌≡◌, ◌≢◌, ℕ, zero, suc, ◌+◌, ◌<◌, ◌≤◌, ◌==◌, ◌||◌, ◌&&◌, Bool, true, false, List, [], ◌∷◌, length, map, take, get_or, set, refl, sym, ◌∙◌, ap, ap₂, arith, eq-eqb, eqb-true}
use Rattle.std.specs.List.{range_with_len, list_any}
use Rattle.std.proofs.lemmas.List.Folds.{list_any-append, list_any_more}
use Rattle.wf_model.proofs.Bools.{not_true}
use Rattle.wf_model.proofs.Rows.{row_agree, range_more}
use Rattle.wf_partition.specs.Marked.{marked, marked_from}

pub or_false : (b : Bool) → (b || false) ≡ b
or_false true = refl
or_false false = refl

or_true : (b : Bool) → (b || true) ≡ true
or_true true = refl
or_true false = refl

pub or_assoc : (a b c : Bool) → ((a || b) || c) ≡ (a || (b || c))
or_assoc true b c = refl
or_assoc false b c = refl

-- the bits of a row
row_from : (f test : ℕ → Bool) (a n : ℕ) → marked_from a test (map f (range_with_len a n)) ≡ map (λ k. f k || test k) (range_with_len a n)
unfolding marked_from
row_from f test a zero = refl
row_from f test a (suc n) = ap (λ (l : List Bool). (f a || test a) ∷ l) (row_from f test (a + 1) n)

pub marked_row : (f test : ℕ → Bool) (n : ℕ) (bits : List Bool) → bits ≡ map f (range_with_len 0 n) → marked test bits ≡ map (λ k. f k || test k) (range_with_len 0 n)
marked_row f test n bits e = ap (marked test) e ∙ row_from f test 0 n

-- tests that agree
agree_from : (one two : ℕ → Bool) (a : ℕ) (bits : List Bool) → ((k : ℕ) → a ≤ k → one k ≡ two k) → marked_from a one bits ≡ marked_from a two bits
unfolding marked_from
agree_from one two a [] h = refl
agree_from one two a (b ∷ bits) h = ap₂ (λ (x : Bool) (l : List Bool). (b || x) ∷ l) (h a (omega arith)) (agree_from one two (a + 1) bits (λ k ge. h k (omega arith)))

pub marked_agree : (one two : ℕ → Bool) (bits : List Bool) → ((k : ℕ) → one k ≡ two k) → marked one bits ≡ marked two bits
marked_agree one two bits h = agree_from one two 0 bits (λ k ge. h k)

none_from : (test : ℕ → Bool) (a : ℕ) (bits : List Bool) → ((k : ℕ) → a ≤ k → test k ≡ false) → marked_from a test bits ≡ bits
unfolding marked_from
none_from test a [] h = refl
none_from test a (b ∷ bits) h = ap₂ (λ (x : Bool) (l : List Bool). x ∷ l) (ap (λ (x : Bool). b || x) (h a (omega arith)) ∙ or_false b) (none_from test (a + 1) bits (λ k ge. h k (omega arith)))

-- no number passes
pub marked_none : (test : ℕ → Bool) (bits : List Bool) → ((k : ℕ) → test k ≡ false) → bits ≡ marked test bits
marked_none test bits h = sym (none_from test 0 bits (λ k ge. h k))

twice_from : (one two : ℕ → Bool) (a : ℕ) (bits : List Bool) → marked_from a two (marked_from a one bits) ≡ marked_from a (λ k. one k || two k) bits
unfolding marked_from
twice_from one two a [] = refl
twice_from one two a (b ∷ bits) = ap₂ (λ (x : Bool) (l : List Bool). x ∷ l) (or_assoc b (one a) (two a)) (twice_from one two (a + 1) bits)

-- two tests, one after the other
pub marked_twice : (one two : ℕ → Bool) (old bits new : List Bool) → bits ≡ marked one old → new ≡ marked two bits → new ≡ marked (λ k. one k || two k) old
marked_twice one two old bits new first second = second ∙ ap (marked two) first ∙ twice_from one two 0 old

pub differ : (k n : ℕ) → k ≢ n → (k == n) ≡ false
differ k n h = not_true (k == n) (λ e. h (eqb-true k n e))

set_from : (a k n : ℕ) (bits : List Bool) → n ≡ a + k → set bits k true ≡ marked_from a (λ m. n == m) bits
unfolding marked_from
set_from a k n [] e = refl
set_from a zero n (b ∷ bits) e =
    ap₂ (λ (x : Bool) (l : List Bool). x ∷ l) (sym (ap (λ (x : Bool). b || x) (eq-eqb n a (omega arith)) ∙ or_true b))
    (sym (none_from (λ m. n == m) (a + 1) bits (λ m ge. differ n m (omega arith))))
set_from a (suc k) n (b ∷ bits) e =
    ap₂ (λ (x : Bool) (l : List Bool). x ∷ l) (sym (ap (λ (x : Bool). b || x) (differ n a (omega arith)) ∙ or_false b)) (set_from (a + 1) k n bits (omega arith))

-- one bit
pub marked_one : (k : ℕ) (bits : List Bool) → set bits k true ≡ marked (λ m. k == m) bits
marked_one k bits = set_from 0 k k bits (omega arith)

past_from : (a n : ℕ) (bits : List Bool) → a + length bits ≤ n → marked_from a (λ m. n == m) bits ≡ bits
unfolding marked_from
past_from a n [] ge = refl
past_from a n (b ∷ bits) ge =
    ap₂ (λ (x : Bool) (l : List Bool). x ∷ l) (ap (λ (x : Bool). b || x) (differ n a (omega arith)) ∙ or_false b) (past_from (a + 1) n bits (omega arith))

-- a number that has no bit
pub marked_past : (k : ℕ) (bits : List Bool) → length bits ≤ k → bits ≡ marked (λ m. k == m) bits
marked_past k bits ge = sym (past_from 0 k bits (omega arith))

-- one item more of a list
pub items_more : {A : Type 0} (tests : A → ℕ → Bool) (xs : List A) (i : ℕ) (x d : A) (old bits new : List Bool) → i < length xs → x ≡ get_or xs i d
    → bits ≡ marked (λ k. list_any (λ y. tests y k) (take i xs)) old → new ≡ marked (tests x) bits → new ≡ marked (λ k. list_any (λ y. tests y k) (take (i + 1) xs)) old
items_more tests xs i x d old bits new lt is before now =
    marked_twice (λ k. list_any (λ y. tests y k) (take i xs)) (tests x) old bits new before now
    ∙ marked_agree _ _ old (λ k. ap (λ (b : Bool). list_any (λ y. tests y k) (take i xs) || b) (ap (λ z. tests z k) is) ∙ sym (list_any_more (λ y. tests y k) xs i d lt))

-- one number more
pub any_more : (p : ℕ → Bool) (i : ℕ) → list_any p (range_with_len 0 (i + 1)) ≡ (list_any p (range_with_len 0 i) || p i)
any_more p i =
    ap (list_any p) (range_more i) ∙ list_any-append p (range_with_len 0 i) (i ∷ []) ∙ ap (λ (b : Bool). list_any p (range_with_len 0 i) || b) (or_false (p i))

-- a row of bits, each set where one of the numbers before i passes, and those of number i set besides
pub row_more_by : (tests : ℕ → ℕ → Bool) (test : ℕ → Bool) (n i : ℕ) (bits new : List Bool) → bits ≡ map (λ k. list_any (λ t. tests t k) (range_with_len 0 i)) (range_with_len 0 n)
    → new ≡ marked test bits → ((k : ℕ) → k < n → test k ≡ tests i k) → new ≡ map (λ k. list_any (λ t. tests t k) (range_with_len 0 (i + 1))) (range_with_len 0 n)
row_more_by tests test n i bits new before now same =
    now ∙ marked_row (λ k. list_any (λ t. tests t k) (range_with_len 0 i)) test n bits before
    ∙ row_agree _ _ n (λ k lt. ap (λ (b : Bool). list_any (λ t. tests t k) (range_with_len 0 i) || b) (same k lt) ∙ sym (any_more (λ t. tests t k) i))

-- one number more
pub numbers_more : (tests : ℕ → ℕ → Bool) (test : ℕ → Bool) (i : ℕ) (old bits new : List Bool) → bits ≡ marked (λ k. list_any (λ t. tests t k) (range_with_len 0 i)) old
    → new ≡ marked test bits → ((k : ℕ) → test k ≡ tests i k) → new ≡ marked (λ k. list_any (λ t. tests t k) (range_with_len 0 (i + 1))) old
numbers_more tests test i old bits new before now same =
    marked_twice (λ k. list_any (λ t. tests t k) (range_with_len 0 i)) test old bits new before now
    ∙ marked_agree _ _ old (λ k. ap (λ (b : Bool). list_any (λ t. tests t k) (range_with_len 0 i) || b) (same k) ∙ sym (any_more (λ t. tests t k) i))

-- a test that counts, and one that doesn't
pub marked_counted : (counts : Bool) (test : ℕ → Bool) (old new : List Bool) → counts ≡ true → new ≡ marked test old → new ≡ marked (λ k. counts && test k) old
marked_counted counts test old new on is = is ∙ marked_agree test (λ k. counts && test k) old (λ k. sym (ap (λ (b : Bool). b && test k) on))

pub marked_skipped : (counts : Bool) (test : ℕ → Bool) (bits : List Bool) → counts ≡ false → bits ≡ marked (λ k. counts && test k) bits
marked_skipped counts test bits off = marked_none (λ k. counts && test k) bits (λ k. ap (λ (b : Bool). b && test k) off)
