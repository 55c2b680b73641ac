-- Numbers in words.
use Rattle.std.proofs.Common.{◌≡◌, ◌≢◌, ◌⊎◌, inl, inr, ℕ, zero, suc, ◌+◌, ◌*◌, ◌/◌, ◌%◌, ◌^◌, ◌<◌, ◌≤◌, ◌==◌, ◌&&◌, ◌||◌, nat_lt, not, cond, Bool, true, false, List, ◌∷◌, length, map, get_or, set, refl, sym, ◌∙◌, ap, ap₂, arith, eq-eqb, eqb-true, true≢false}
use Rattle.std.specs.Prelude.{replicate, bit_and, bit_or}
use Rattle.std.specs.List.{list_any, range_with_len}
use Rattle.std.specs.Int.{bit_at, w64, trailing_zeros}
use Rattle.std.specs.Int.Bits.{and_le_l}
use Rattle.std.proofs.lemmas.Bool.{cases_lt}
use Rattle.std.proofs.lemmas.Bool.Decides.{nat_tests}
use Rattle.std.proofs.lemmas.List.{length-set, get_or-set_same, get_or-set_other, length-replicate}
use Rattle.std.proofs.lemmas.Nat.Bits.{bit_at_and, bit_at-zero, bit_at_set_same, bit_at_set_other, bit_at-trailing_zeros, bit_at-lt}
use Rattle.wf_model.specs.Bits.{bit}
use Rattle.wf_model.proofs.Bools.{and_both, and_true, or_right, not_true}
use Rattle.wf_model.proofs.Rows.{row_at, row_agree, row_set, row_len}
use Rattle.wf_masks.specs.Masks.{is_in, bits_of, share_bit, meet}

-- the truth of a number
pub bit_is : (words : List ℕ) (bits : List Bool) (n i : ℕ) → bits ≡ bits_of words → length words ≡ n → i < 64 * n → bit bits i ≡ is_in words i
bit_is words bits n i are long lt = row_at (is_in words) (64 * length words) i false bits are (omega arith)

pub bits_long : (words : List ℕ) (bits : List Bool) (n : ℕ) → bits ≡ bits_of words → length words ≡ n → length bits ≡ 64 * n
bits_long words bits n are long = row_len (is_in words) (64 * length words) bits are ∙ ap (λ (m : ℕ). 64 * m) long

-- no number

zero_at : (w k : ℕ) → ◌≡◌ {A = ℕ} (get_or (replicate w 0) k 0) 0
zero_at zero k = refl
zero_at (suc w) zero = refl
zero_at (suc w) (suc k) = zero_at w k

pub none_from : (a n : ℕ) → map (λ k. false) (range_with_len a n) ≡ replicate n false
none_from a zero = refl
none_from a (suc n) = ap (λ (l : List Bool). false ∷ l) (none_from (a + 1) n)

pub bits_none : (w : ℕ) → bits_of (replicate w 0) ≡ replicate (64 * w) false
bits_none w =
    ap (λ (m : ℕ). map (is_in (replicate w 0)) (range_with_len 0 (64 * m))) (length-replicate w 0)
    ∙ row_agree (is_in (replicate w 0)) (λ k. false) (64 * w)
    (λ i lt. ap (λ (n : ℕ). bit_at n (i % 64) == 1) (zero_at w (i / 64)) ∙ ap (λ (n : ℕ). n == 1) (bit_at-zero (i % 64)))
    ∙ none_from 0 (64 * w)

-- one number more

abbrev pub with_bit : ℕ → ℕ → ℕ
with_bit word k = bit_or word (1 * 2 ^ k % 18446744073709551616)

abbrev pub with_number : List ℕ → ℕ → List ℕ
with_number words i = set words (i / 64) (with_bit (get_or words (i / 64) 0) (i % 64))

set_here : (words : List ℕ) (i : ℕ) → i < 64 * length words → is_in (with_number words i) i ≡ true
set_here words i lt =
    ap (λ (n : ℕ). bit_at n (i % 64) == 1) (get_or-set_same words (i / 64) (with_bit (get_or words (i / 64) 0) (i % 64)) 0 (omega arith))
    ∙ ap (λ (n : ℕ). n == 1) (bit_at_set_same w64 (get_or words (i / 64) 0) (i % 64) (omega arith))

-- another number of the same word
set_beside : (words : List ℕ) (i k : ℕ) → i < 64 * length words → k / 64 ≡ i / 64 → k ≢ i → is_in (with_number words i) k ≡ is_in words k
set_beside words i k lt e ne =
    let apart : k % 64 ≢ i % 64 = λ r. ne (omega arith) in
    ap (λ (q : ℕ). bit_at (get_or (with_number words i) q 0) (k % 64) == 1) e
    ∙ ap (λ (n : ℕ). bit_at n (k % 64) == 1) (get_or-set_same words (i / 64) (with_bit (get_or words (i / 64) 0) (i % 64)) 0 (omega arith))
    ∙ ap (λ (n : ℕ). n == 1) (bit_at_set_other w64 (get_or words (i / 64) 0) (i % 64) (omega arith) (k % 64) apart)
    ∙ ap (λ (q : ℕ). bit_at (get_or words q 0) (k % 64) == 1) (sym e)

set_other : (words : List ℕ) (i k : ℕ) → i < 64 * length words → k ≢ i → is_in (with_number words i) k ≡ is_in words k
set_other words i k lt ne = go (k / 64 == i / 64) refl
  where
    go : (b : Bool) → (k / 64 == i / 64) ≡ b → is_in (with_number words i) k ≡ is_in words k
    go true e = set_beside words i k lt (eqb-true (k / 64) (i / 64) e) ne
    go false e =
        let apart : k / 64 ≢ i / 64 = λ q. true≢false (sym (eq-eqb (k / 64) (i / 64) q) ∙ e) in
        ap (λ (n : ℕ). bit_at n (k % 64) == 1) (get_or-set_other words (i / 64) (k / 64) (with_bit (get_or words (i / 64) 0) (i % 64)) 0 apart)

set_at : (words : List ℕ) (i k : ℕ) → i < 64 * length words → is_in (with_number words i) k ≡ cond (k == i) true (is_in words k)
set_at words i k lt = go (k == i) refl
  where
    go : (b : Bool) → (k == i) ≡ b → is_in (with_number words i) k ≡ cond (k == i) true (is_in words k)
    go true e = ap (is_in (with_number words i)) (eqb-true k i e) ∙ set_here words i lt ∙ sym (ap (λ (b : Bool). cond b true (is_in words k)) e)
    go false e = set_other words i k lt (λ q. true≢false (sym (eq-eqb k i q) ∙ e)) ∙ sym (ap (λ (b : Bool). cond b true (is_in words k)) e)

pub bits_more : (words : List ℕ) (i : ℕ) → i < 64 * length words → bits_of (with_number words i) ≡ set (bits_of words) i true
bits_more words i lt =
    ap (λ (m : ℕ). map (is_in (with_number words i)) (range_with_len 0 (64 * m))) (length-set words (i / 64) (with_bit (get_or words (i / 64) 0) (i % 64)))
    ∙ row_agree (is_in (with_number words i)) (λ k. cond (k == i) true (is_in words k)) (64 * length words) (λ k within. set_at words i k lt)
    ∙ sym (row_set (is_in words) (64 * length words) i true (bits_of words) refl lt)

-- tests of a range

any_from : (p : ℕ → Bool) (a n i : ℕ) → a ≤ i → i < a + n → p i ≡ true → list_any p (range_with_len a n) ≡ true
any_from p a zero i lo hi h = absurd (omega arith)
any_from p a (suc n) i lo hi h = go (cases_lt a i) (λ lt. any_from p (a + 1) n i (omega arith) (omega arith) h)
  where
    go : (a < i) ⊎ (i ≤ a) → (a < i → list_any p (range_with_len (a + 1) n) ≡ true) → list_any p (range_with_len a (suc n)) ≡ true
    go (inl lt) rest = or_right (p a) (list_any p (range_with_len (a + 1) n)) (rest lt)
    go (inr le) rest = let here : a ≡ i = omega arith in ap (λ (b : Bool). b || list_any p (range_with_len (a + 1) n)) (ap p here ∙ h)

none_in : (p : ℕ → Bool) (a n : ℕ) → ((i : ℕ) → a ≤ i → i < a + n → p i ≡ false) → list_any p (range_with_len a n) ≡ false
none_in p a zero h = refl
none_in p a (suc n) h =
    ap (λ (b : Bool). b || list_any p (range_with_len (a + 1) n)) (h a (omega arith) (omega arith)) ∙ none_in p (a + 1) n (λ i lo hi. h i (omega arith) (omega arith))

-- a number of a range that passes
passing : (p : ℕ → Bool) (a n : ℕ) → list_any p (range_with_len a n) ≡ true → (r : ℕ) × (a ≤ r) × (r < a + n) × (p r ≡ true)
passing p a zero h = absurd (true≢false (sym h))
passing p a (suc n) h = go (p a) refl h (passing p (a + 1) n)
  where
    go : (b : Bool) → p a ≡ b → (b || list_any p (range_with_len (a + 1) n)) ≡ true → (list_any p (range_with_len (a + 1) n) ≡ true → (r : ℕ) × (a + 1 ≤ r) × (r < a + 1 + n) × (p r ≡ true)) → (r : ℕ) × (a ≤ r) × (r < a + suc n) × (p r ≡ true)
    go true e k rest = (a, omega arith, omega arith, e)
    go false e k rest = let m = rest k in let lo = m.1 in let hi = m.2 in (m.0, omega arith, omega arith, m.3)

-- numbers in two words

words_apart : (a b r : ℕ) → bit_and a b ≡ 0 → ((bit_at a r == 1) && (bit_at b r == 1)) ≡ false
words_apart a b r h = not_true ((bit_at a r == 1) && (bit_at b r == 1)) (λ e.
    let both = and_both (bit_at a r == 1) (bit_at b r == 1) e in
    let one = eqb-true (bit_at a r) 1 both.0 in
    let two = eqb-true (bit_at b r) 1 both.1 in
    let none = ap (λ (n : ℕ). bit_at n r) h ∙ bit_at-zero r in
    let least = bit_at_and a b r in
    omega arith)

words_meet : (a b : ℕ) → a < 2 ^ 64 → bit_and a b ≢ 0 → (r : ℕ) × (r < 64) × (((bit_at a r == 1) && (bit_at b r == 1)) ≡ true)
words_meet a b lt h =
    let n = bit_and a b in
    let small : n < 2 ^ 64 = let le = and_le_l a b in omega arith in
    let w = bit_at-trailing_zeros w64 n (omega arith) small in
    let r = trailing_zeros w64 n in
    let least = bit_at_and a b r in
    let first = bit_at-lt a r in
    let second = bit_at-lt b r in
    let set = w.1 in
    let one : bit_at a r ≡ 1 = omega arith in
    let two : bit_at b r ≡ 1 = omega arith in
    (r, w.0, and_true (bit_at a r == 1) (bit_at b r == 1) (eq-eqb (bit_at a r) 1 one) (eq-eqb (bit_at b r) 1 two))

common_some : (a b : ℕ) → a < 2 ^ 64 → bit_and a b ≢ 0 → true ≡ share_bit a b
unfolding share_bit
common_some a b lt h =
    let m = words_meet a b lt h in
    let r = m.0 in
    let below : r < 64 = m.1 in
    sym (any_from (λ k. (bit_at a k == 1) && (bit_at b k == 1)) 0 64 r (omega arith) (omega arith) m.2)

common_none : (a b : ℕ) → bit_and a b ≡ 0 → false ≡ share_bit a b
unfolding share_bit
common_none a b h = sym (none_in (λ k. (bit_at a k == 1) && (bit_at b k == 1)) 0 64 (λ r lo hi. words_apart a b r h))

pub common_is : (a b : ℕ) → a < 2 ^ 64 → not (bit_and a b == 0) ≡ share_bit a b
common_is a b lt = go (bit_and a b == 0) refl
  where
    go : (t : Bool) → (bit_and a b == 0) ≡ t → not (bit_and a b == 0) ≡ share_bit a b
    go true e = ap not e ∙ common_none a b (eqb-true (bit_and a b) 0 e)
    go false e = ap not e ∙ common_some a b lt (λ q. true≢false (sym (eq-eqb (bit_and a b) 0 q) ∙ e))

-- a bit that two words share, and one of two words that share none

shared : (a b : ℕ) → true ≡ share_bit a b → (r : ℕ) × (0 ≤ r) × (r < 0 + 64) × (((bit_at a r == 1) && (bit_at b r == 1)) ≡ true)
unfolding share_bit
shared a b h = passing (λ k. (bit_at a k == 1) && (bit_at b k == 1)) 0 64 (sym h)

unshared : (a b r : ℕ) → false ≡ share_bit a b → r < 64 → ((bit_at a r == 1) && (bit_at b r == 1)) ≡ false
unfolding share_bit
unshared a b r h lt = not_true ((bit_at a r == 1) && (bit_at b r == 1)) (λ e. true≢false (sym (any_from (λ k. (bit_at a k == 1) && (bit_at b k == 1)) 0 64 r (omega arith) (omega arith) e) ∙ sym h))

-- two sets, as far as these words of them

both_at : (xs ys : List ℕ) (a b : List Bool) (w at i : ℕ) → a ≡ bits_of xs → b ≡ bits_of ys → length xs ≡ w → length ys ≡ w → i < 64 * w → i / 64 ≡ at →
    (bit a i && bit b i) ≡ ((bit_at (get_or xs at 0) (i % 64) == 1) && (bit_at (get_or ys at 0) (i % 64) == 1))
both_at xs ys a b w at i pa pb la lb lt here =
    ap₂ (λ (x y : Bool). x && y) (bit_is xs a w i pa la lt ∙ ap (λ (q : ℕ). bit_at (get_or xs q 0) (i % 64) == 1) here) (bit_is ys b w i pb lb lt ∙ ap (λ (q : ℕ). bit_at (get_or ys q 0) (i % 64) == 1) here)

pub none_yet : (xs ys : List ℕ) (a b : List Bool) (w at : ℕ) → a ≡ bits_of xs → b ≡ bits_of ys → length xs ≡ w → length ys ≡ w → at < w
    → false ≡ share_bit (get_or xs at 0) (get_or ys at 0)
    → ((i : ℕ) → i < 64 * at → (bit a i && bit b i) ≡ false) → (i : ℕ) → i < 64 * (at + 1) → (bit a i && bit b i) ≡ false
none_yet xs ys a b w at pa pb la lb lt none before i hi = go (cases_lt i (64 * at))
  where
    go : (i < 64 * at) ⊎ (64 * at ≤ i) → (bit a i && bit b i) ≡ false
    go (inl less) = before i less
    go (inr more) =
        both_at xs ys a b w at i pa pb la lb (omega arith) (omega arith)
        ∙ unshared (get_or xs at 0) (get_or ys at 0) (i % 64) none (omega arith)

pub none_meet : (a b : List Bool) (n : ℕ) → length a ≡ n → ((i : ℕ) → i < n → (bit a i && bit b i) ≡ false) → false ≡ meet a b
none_meet a b n long h = sym (none_in (λ i. bit a i && bit b i) 0 (length a) (λ i lo hi. h i (omega arith)))

pub some_meet : (xs ys : List ℕ) (a b : List Bool) (w at : ℕ) → a ≡ bits_of xs → b ≡ bits_of ys → length xs ≡ w → length ys ≡ w → at < w
    → true ≡ share_bit (get_or xs at 0) (get_or ys at 0) → true ≡ meet a b
some_meet xs ys a b w at pa pb la lb lt some =
    let m = shared (get_or xs at 0) (get_or ys at 0) some in
    let r = m.0 in
    let below : r < 64 = let hi = m.2 in omega arith in
    let i = 64 * at + r in
    let within : i < 64 * w = omega arith in
    let long = bits_long xs a w pa la in
    let place : i % 64 ≡ r = omega arith in
    let here = both_at xs ys a b w at i pa pb la lb within (omega arith) ∙ ap (λ (k : ℕ). (bit_at (get_or xs at 0) k == 1) && (bit_at (get_or ys at 0) k == 1)) place ∙ m.3 in
    sym (any_from (λ i. bit a i && bit b i) 0 (length a) i (omega arith) (omega arith) here)

-- the transitions that fire, one row more

abbrev upto : (ℕ → Bool) → ℕ → ℕ → Bool
upto f k u = nat_lt u k && f u

same_but : (f : ℕ → Bool) (k u : ℕ) → u ≢ k → upto f k u ≡ upto f (k + 1) u
same_but f k u ne = ap (λ (b : Bool). b && f u) tests
  where
    tests : nat_lt u k ≡ nat_lt u (k + 1)
    tests = grind (arith, nat_tests)

at_last : (f : ℕ → Bool) (k : ℕ) → upto f (k + 1) k ≡ f k
at_last f k = ap (λ (b : Bool). b && f k) tests
  where
    tests : nat_lt k (k + 1) ≡ true
    tests = grind (arith, nat_tests)

at_next : (f : ℕ → Bool) (k : ℕ) → upto f k k ≡ false
at_next f k = ap (λ (b : Bool). b && f k) tests
  where
    tests : nat_lt k k ≡ false
    tests = grind (arith, nat_tests)

pub fired_more : (f : ℕ → Bool) (n k : ℕ) (bits : List Bool) → bits ≡ map (λ u. nat_lt u k && f u) (range_with_len 0 n) → k < n → f k ≡ true → set bits k true ≡ map (λ u. nat_lt u (k + 1) && f u) (range_with_len 0 n)
fired_more f n k bits row lt is = row_set (upto f k) n k true bits row lt ∙ row_agree (λ u. cond (u == k) true (upto f k u)) (upto f (k + 1)) n (λ u within. go u (u == k) refl)
  where
    go : (u : ℕ) (b : Bool) → (u == k) ≡ b → cond (u == k) true (upto f k u) ≡ upto f (k + 1) u
    go u true e = ap (λ (b : Bool). cond b true (upto f k u)) e ∙ sym (ap (upto f (k + 1)) (eqb-true u k e) ∙ at_last f k ∙ is)
    go u false e = ap (λ (b : Bool). cond b true (upto f k u)) e ∙ same_but f k u (λ q. true≢false (sym (eq-eqb u k q) ∙ e))

pub passed_over : (f : ℕ → Bool) (n k : ℕ) (bits : List Bool) → bits ≡ map (λ u. nat_lt u k && f u) (range_with_len 0 n) → f k ≡ false → bits ≡ map (λ u. nat_lt u (k + 1) && f u) (range_with_len 0 n)
passed_over f n k bits row is = row ∙ row_agree (upto f k) (upto f (k + 1)) n (λ u within. go u (u == k) refl)
  where
    go : (u : ℕ) (b : Bool) → (u == k) ≡ b → upto f k u ≡ upto f (k + 1) u
    go u true e = let same = eqb-true u k e in ap (upto f k) same ∙ at_next f k ∙ sym (ap (upto f (k + 1)) same ∙ at_last f k ∙ is)
    go u false e = same_but f k u (λ q. true≢false (sym (eq-eqb u k q) ∙ e))

pub none_fire : (f : ℕ → Bool) (n : ℕ) → replicate n false ≡ map (λ u. nat_lt u 0 && f u) (range_with_len 0 n)
none_fire f n = sym (row_agree (upto f 0) (λ k. false) n (λ u within. ap (λ (b : Bool). b && f u) (tests u)) ∙ none_from 0 n)
  where
    tests : (u : ℕ) → nat_lt u 0 ≡ false
    tests u = grind (arith, nat_tests)
