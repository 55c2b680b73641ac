-- Bits of numbers, and the sets that they are.
use Rattle.std.proofs.Common.{◌≡◌, ◌≢◌, ◌⊎◌, inl, inr, ℕ, zero, suc, ◌+◌, ◌<◌, ◌≤◌, ◌==◌, ◌||◌, max, Bool, true, false, List, [], ◌∷◌, length, map, take, fold, get_or, set, refl, sym, ◌∙◌, ap, ap₂, arith, eq-eqb, eqb-true}
use Rattle.std.specs.Prelude.{replicate}
use Rattle.std.specs.List.{range_with_len, list_any}
use Rattle.std.proofs.lemmas.List.{get_or_past}
use Rattle.std.proofs.lemmas.List.Folds.{list_any_more}
use Rattle.std.proofs.lemmas.Bool.{cases_lt}
use Rattle.wf_model.specs.Bits.{bit}
use Rattle.wf_model.proofs.Bools.{not_true, any_map}
use Rattle.wf_model.proofs.Rows.{row_at, row_agree, row_len}
use Rattle.wf_parts.specs.Peers.{Knowledge}
use Rattle.wf_updates.specs.Tables.{past_numbers, is_among, told_by}

or_false : (b : Bool) → (b || false) ≡ b
or_false true = refl
or_false false = refl

or_true : (b : Bool) → (b || true) ≡ true
or_true true = refl
or_true false = refl

pub differ : (k n : ℕ) → k ≢ n → (k == n) ≡ false
differ k n h = not_true (k == n) (λ e. h (eqb-true k n e))

-- no bit is set
none_from : (a n : ℕ) → replicate n false ≡ map (λ k. false) (range_with_len a n)
none_from a zero = refl
none_from a (suc n) = ap (λ (l : List Bool). false ∷ l) (none_from (a + 1) n)

pub none_set : (n : ℕ) → replicate n false ≡ map (λ k. false) (range_with_len 0 n)
none_set n = none_from 0 n

-- what is set stays where no number from a on is n
same_from : (f : ℕ → Bool) (n a count : ℕ) → n < a → map f (range_with_len a count) ≡ map (λ k. f k || (n == k)) (range_with_len a count)
same_from f n a zero lt = refl
same_from f n a (suc count) lt =
    ap₂ (λ (x : Bool) (l : List Bool). x ∷ l) (sym (ap (λ (x : Bool). f a || x) (differ n a (omega arith)) ∙ or_false (f a))) (same_from f n (a + 1) count (omega arith))

set_from : (f : ℕ → Bool) (a count at n : ℕ) → n ≡ a + at → set (map f (range_with_len a count)) at true ≡ map (λ k. f k || (n == k)) (range_with_len a count)
set_from f a zero at n e = refl
set_from f a (suc count) zero n e =
    ap₂ (λ (x : Bool) (l : List Bool). x ∷ l) (sym (ap (λ (x : Bool). f a || x) (eq-eqb n a (omega arith)) ∙ or_true (f a))) (same_from f n (a + 1) count (omega arith))
set_from f a (suc count) (suc at) n e =
    ap₂ (λ (x : Bool) (l : List Bool). x ∷ l) (sym (ap (λ (x : Bool). f a || x) (differ n a (omega arith)) ∙ or_false (f a))) (set_from f (a + 1) count at n (omega arith))

-- one number more
pub among_more : (numbers : List ℕ) (i count : ℕ) (bits new : List Bool) → i < length numbers → bits ≡ map (is_among (take i numbers)) (range_with_len 0 count)
    → new ≡ set bits (get_or numbers i 0) true → new ≡ map (is_among (take (i + 1) numbers)) (range_with_len 0 count)
among_more numbers i count bits new lt before now =
    let n = get_or numbers i 0 in
    now ∙ ap (λ (b : List Bool). set b n true) before ∙ set_from (is_among (take i numbers)) 0 count n n (omega arith)
    ∙ row_agree _ _ count (λ k below. sym (list_any_more (λ m. m == k) numbers i 0 lt))

pub above_start : (s : ℕ) (ns : List ℕ) → s ≤ fold (λ past n. max past (n + 1)) s ns
above_start s [] = omega arith
above_start s (n ∷ ns) = omega (arith, above_start (max s (n + 1)) ns)

past_from : (s : ℕ) (ns : List ℕ) (k : ℕ) → fold (λ past n. max past (n + 1)) s ns ≤ k → list_any (λ n. n == k) ns ≡ false
past_from s [] k h = refl
past_from s (n ∷ ns) k h =
    ap₂ (λ (a b : Bool). a || b) (differ n k (let up = above_start (max s (n + 1)) ns in λ e. omega arith)) (past_from (max s (n + 1)) ns k h)

-- numbers past the greatest are not among them
pub among_past : (numbers : List ℕ) (k : ℕ) → past_numbers numbers ≤ k → is_among numbers k ≡ false
among_past numbers k h = past_from 0 numbers k h

pub set_told : (numbers : List ℕ) (count : ℕ) (bits : List Bool) → count ≡ past_numbers numbers → bits ≡ map (is_among numbers) (range_with_len 0 count)
    → bit bits ≡ is_among numbers
set_told numbers count bits e row = λ i k. at k (cases_lt k count) i
  where
    at : (k : ℕ) → (k < count) ⊎ (count ≤ k) → bit bits k ≡ is_among numbers k
    at k (inl lt) = row_at (is_among numbers) count k false bits row lt
    at k (inr ge) = get_or_past bits k false (let n = row_len (is_among numbers) count bits row in omega arith) ∙ sym (among_past numbers k (omega arith))

-- the set of the numbers of items
pub told : {A : Type 0} (f : A → ℕ) (xs ys : List A) (numbers given : List ℕ) (bits : List Bool) → ys ≡ xs → numbers ≡ map f ys → given ≡ numbers → bit bits ≡ is_among given
    → bit bits ≡ (λ k. list_any (λ x. f x == k) xs)
told f xs ys numbers given bits same are lent set =
    set ∙ ap is_among (lent ∙ are ∙ ap (map f) same) ∙ (λ i k. any_map (λ n. n == k) f xs i)

-- four sets
pub sets_told : (known : Knowledge) (states vars events acts : List Bool) → bit states ≡ known.states → bit vars ≡ known.vars → bit events ≡ known.events → bit acts ≡ known.acts
    → told_by (record { states = states; vars = vars; events = events; acts = acts }) ≡ known
sets_told known states vars events acts s v e a = λ i. record { states = s i; vars = v i; events = e i; acts = a i }
