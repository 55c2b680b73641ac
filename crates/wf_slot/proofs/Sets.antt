-- The set of the units that a machine counts as missing, by its bits.
use Rattle.std.proofs.Common.{◌≡◌, ℕ, zero, suc, ◌+◌, ◌-◌, ◌*◌, ◌/◌, ◌%◌, ◌^◌, ◌<◌, ◌≤◌, ◌==◌, ◌&&◌, not, nat_lt, Bool, true, false, cond, List, [], ◌∷◌, map, filter, sum, refl, sym, ◌∙◌, ap, ap₂, arith, rules}
use Rattle.std.specs.List.{range_with_len}
use Rattle.std.specs.Int.{bit_at}
use Rattle.std.proofs.lemmas.Bool.{cond-true, cond-false}
use Rattle.std.proofs.lemmas.List.Sums.{sum_by-cons}
use Rattle.std.proofs.lemmas.Nat.Bits.{bit_at_lowest, bit_at-suc}

-- A NUMBER OF n BITS

abbrev number : ℕ → (ℕ → ℕ) → ℕ
number zero bit = 0
number (suc n) bit = bit 0 + 2 * number n (λ i. bit (suc i))

number_same : (n : ℕ) (a b : ℕ → ℕ) → ((i : ℕ) → i < n → a i ≡ b i) → number n a ≡ number n b
number_same zero a b same = refl
number_same (suc n) a b same = ap₂ (λ (x y : ℕ). x + 2 * y) (same 0 (omega arith)) (number_same n (λ i. a (suc i)) (λ i. b (suc i)) (λ i lt. same (suc i) (omega arith)))

-- a number below 2 ^ n is that of its bits
number_is : (n x : ℕ) → x < 2 ^ n → x ≡ number n (bit_at x)
number_is zero x small = omega (arith, small)
number_is (suc n) x small =
    let power : 2 ^ suc n ≡ 2 * 2 ^ n = search arith in
    let half : x / 2 < 2 ^ n = omega (arith, small, power) in
    let rest : x / 2 ≡ number n (λ i. bit_at x (suc i)) = number_is n (x / 2) half ∙ number_same n (bit_at (x / 2)) (λ i. bit_at x (suc i)) (λ i lt. sym (bit_at-suc x i)) in
    let low : bit_at x 0 ≡ x % 2 = bit_at_lowest x in
    omega (arith, rest, low)

-- THE SUM OF THE POWERS OF THOSE THAT PASS

abbrev bit_by : Bool → ℕ
bit_by b = cond b 1 0

join : (q n : ℕ) → q + (2 * q) * n ≡ q * (1 + 2 * n)
join q n = omega arith

skip : (q n : ℕ) → (2 * q) * n ≡ q * (0 + 2 * n)
skip q n = omega arith

-- one more in front
module _ (p : ℕ → Bool) (k n : ℕ) (rest : sum (map (λ v. 2 ^ v) (filter p (range_with_len (k + 1) n))) ≡ 2 ^ (k + 1) * number n (λ i. bit_by (p ((k + 1) + i)))) where
  -- the number of the others
  abbrev others : ℕ
  others = number n (λ i. bit_by (p (k + suc i)))

  abbrev more : List ℕ
  more = filter p (range_with_len (k + 1) n)

  shift : number n (λ i. bit_by (p ((k + 1) + i))) ≡ others
  shift = number_same n (λ i. bit_by (p ((k + 1) + i))) (λ i. bit_by (p (k + suc i))) (λ i lt. let same : (k + 1) + i ≡ k + suc i = omega arith in ap (λ (v : ℕ). bit_by (p v)) same)

  power : 2 ^ (k + 1) ≡ 2 * 2 ^ k
  power = let next : k + 1 ≡ suc k = omega arith in let twice : 2 ^ suc k ≡ 2 * 2 ^ k = search arith in ap (λ (i : ℕ). 2 ^ i) next ∙ twice

  sum_is : sum (map (λ v. 2 ^ v) more) ≡ (2 * 2 ^ k) * others
  sum_is = rest ∙ ap₂ (λ (x y : ℕ). x * y) power shift

  first : (b : Bool) → p k ≡ b → bit_by (p (k + 0)) ≡ bit_by b
  first b e = let same : k + 0 ≡ k = omega arith in ap (λ (v : ℕ). bit_by (p v)) same ∙ ap bit_by e

  whole : (b : Bool) → p k ≡ b → 2 ^ k * (bit_by b + 2 * others) ≡ 2 ^ k * number (suc n) (λ i. bit_by (p (k + i)))
  whole b e = ap (λ (x : ℕ). 2 ^ k * (x + 2 * others)) (sym (first b e))

  powers_next : (b : Bool) → p k ≡ b → sum (map (λ v. 2 ^ v) (filter p (k ∷ range_with_len (k + 1) n))) ≡ 2 ^ k * number (suc n) (λ i. bit_by (p (k + i)))
  powers_next true e =
      ap (λ (vs : List ℕ). sum (map (λ v. 2 ^ v) vs)) (cond-true (p k) (k ∷ more) more e)
      ∙ sum_by-cons (λ x. x) (2 ^ k) (map (λ v. 2 ^ v) more)
      ∙ ap (λ (x : ℕ). 2 ^ k + x) sum_is
      ∙ join (2 ^ k) others
      ∙ whole true e
  powers_next false e =
      ap (λ (vs : List ℕ). sum (map (λ v. 2 ^ v) vs)) (cond-false (p k) (k ∷ more) more e)
      ∙ sum_is
      ∙ skip (2 ^ k) others
      ∙ whole false e

powers_of : (p : ℕ → Bool) (k n : ℕ) → sum (map (λ v. 2 ^ v) (filter p (range_with_len k n))) ≡ 2 ^ k * number n (λ i. bit_by (p (k + i)))
powers_of p k zero = omega arith
powers_of p k (suc n) = powers_next p k n (powers_of p (k + 1) n) (p k) refl

-- those that pass both

both_next : (p q : ℕ → Bool) (x : ℕ) (xs : List ℕ) → filter p (filter q xs) ≡ filter (λ x. q x && p x) xs → (b : Bool) → q x ≡ b → filter p (filter q (x ∷ xs)) ≡ filter (λ x. q x && p x) (x ∷ xs)
both_next p q x xs rest true e =
    ap (filter p) (cond-true (q x) (x ∷ filter q xs) (filter q xs) e)
    ∙ ap (λ (ys : List ℕ). cond (p x) (x ∷ ys) ys) rest
    ∙ ap (λ (b : Bool). cond (b && p x) (x ∷ filter (λ x. q x && p x) xs) (filter (λ x. q x && p x) xs)) (sym e)
both_next p q x xs rest false e =
    ap (filter p) (cond-false (q x) (x ∷ filter q xs) (filter q xs) e)
    ∙ rest
    ∙ ap (λ (b : Bool). cond (b && p x) (x ∷ filter (λ x. q x && p x) xs) (filter (λ x. q x && p x) xs)) (sym e)

filter_both : (p q : ℕ → Bool) (xs : List ℕ) → filter p (filter q xs) ≡ filter (λ x. q x && p x) xs
filter_both p q [] = refl
filter_both p q (x ∷ xs) = both_next p q x xs (filter_both p q xs) (q x) refl

-- units from n on don't count
number_more : (n d : ℕ) (bit : ℕ → ℕ) → ((i : ℕ) → n ≤ i → bit i ≡ 0) → number (n + d) bit ≡ number n bit
number_more zero d bit none = ap (λ (m : ℕ). number m bit) (let same : 0 + d ≡ d = omega arith in same) ∙ zeros d bit none
  where
    zeros : (d : ℕ) (bit : ℕ → ℕ) → ((i : ℕ) → 0 ≤ i → bit i ≡ 0) → number d bit ≡ 0
    zeros zero bit none = refl
    zeros (suc d) bit none = ap₂ (λ (x y : ℕ). x + 2 * y) (none 0 (omega arith)) (zeros d (λ i. bit (suc i)) (λ i le. none (suc i) (omega arith)))
number_more (suc n) d bit none =
    ap (λ (m : ℕ). number m bit) (let same : suc n + d ≡ suc (n + d) = omega arith in same)
    ∙ ap (λ (y : ℕ). bit 0 + 2 * y) (number_more n d (λ i. bit (suc i)) (λ i le. none (suc i) (omega arith)))

-- THE SET: a byte whose bits are just the peers of u, of n units, that don't pass
pub set_is : (set u n : ℕ) (has : ℕ → Bool) → n ≤ 8 → set < 2 ^ 8 → ((v : ℕ) → v < 8 → bit_at set v ≡ bit_by (nat_lt v n && (not (v == u) && not (has v)))) →
    sum (map (λ v. 2 ^ v) (filter (λ v. not (has v)) (filter (λ v. not (v == u)) (range_with_len 0 n)))) ≡ set
set_is set u n has few small bits =
    ap (λ (vs : List ℕ). sum (map (λ v. 2 ^ v) vs)) (filter_both (λ v. not (has v)) (λ v. not (v == u)) (range_with_len 0 n))
    ∙ powers_of missing 0 n
    ∙ (let one : 2 ^ 0 * number n (λ i. bit_by (missing (0 + i))) ≡ number n (λ i. bit_by (missing (0 + i))) = omega arith in one)
    ∙ number_same n (λ i. bit_by (missing (0 + i))) wanted (λ i lt. let is : nat_lt i n ≡ true = search (rules, lt) in let same : 0 + i ≡ i = omega arith in
    ap (λ (v : ℕ). bit_by (missing v)) same ∙ ap (λ (b : Bool). bit_by (b && missing i)) (sym is))
    ∙ sym (number_more n (8 - n) wanted (λ i le. let is : nat_lt i n ≡ false = search (rules, le) in ap (λ (b : Bool). bit_by (b && missing i)) is))
    ∙ ap (λ (m : ℕ). number m wanted) (let same : n + (8 - n) ≡ 8 = omega arith in same)
    ∙ number_same 8 wanted (bit_at set) (λ i lt. sym (bits i lt))
    ∙ sym (number_is 8 set small)
  where
    missing : ℕ → Bool
    missing v = not (v == u) && not (has v)

    wanted : ℕ → ℕ
    wanted v = bit_by (nat_lt v n && missing v)
