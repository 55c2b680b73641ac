-- Where there is no fault: which tests have passed then.
use Rattle.std.proofs.Common.{◌≡◌, ℕ, suc, ◌+◌, ◌&&◌, ◌||◌, ◌⊎◌, not, cond, Bool, true, false, List, [], ◌∷◌, length, Option, Some, None, is_none, inl, inr, refl, sym, ap, ap₂, ◌∙◌, arith, true≢false}
use Rattle.std.specs.Prelude.{nat_lt}
use Rattle.std.specs.List.{list_all, position_or_len, enumerate_from}
use Rattle.std.specs.Option.{option_or, option_map}
use Rattle.std.proofs.lemmas.Bool.{lt-ltb}
use Rattle.std.proofs.lemmas.Bool.Decides.{nat_tests}
use Rattle.wf_model.specs.Accepted.{all_numbered}
use Rattle.wf_check.specs.declared.fault.CheckFault.{CheckFault}
use Rattle.wf_check.specs.Firsts.{first_failing, first_failing_numbered, unless, first_from}

pub or_cases : (a b : Bool) → (a || b) ≡ true → (a ≡ true) ⊎ (b ≡ true)
or_cases true b h = inl refl
or_cases false b h = inr h

pub or_right : (a b : Bool) → b ≡ true → (a || b) ≡ true
or_right true b h = refl
or_right false b h = h

pub none_of : {A : Type 0} → (o : Option A) → is_none o ≡ true → o ≡ None
none_of None h = refl
none_of (Some x) h = absurd (true≢false (sym h))

pub none-or : {A : Type 0} → (a b : Option A) → is_none (option_or a b) ≡ (is_none a && is_none b)
none-or None b = refl
none-or (Some x) b = refl

pub none-map : {A B : Type 0} → (f : A → B) (o : Option A) → is_none (option_map f o) ≡ is_none o
none-map f None = refl
none-map f (Some x) = refl

pub none-unless : (passes : Bool) (fault : CheckFault) → is_none (unless passes fault) ≡ passes
none-unless true fault = refl
none-unless false fault = refl

-- the list has an item that fails exactly where not all pass
failing_by : {A : Type 0} → (test : A → Bool) (xs : List A) → nat_lt (position_or_len (λ x. not (test x)) xs) (length xs) ≡ not (list_all test xs)
failing_by test [] = refl
failing_by test (x ∷ xs) = by_test (test x) (position_or_len (λ x. not (test x)) xs) (length xs) (list_all test xs) (failing_by test xs)
  where
    by_test : (b : Bool) (k n : ℕ) (all : Bool) → nat_lt k n ≡ not all → nat_lt (cond (not (not b)) (1 + k) 0) (suc n) ≡ not (b && all)
    by_test true k n all e = shift k n ∙ e
      where
        shift : (k n : ℕ) → nat_lt (1 + k) (suc n) ≡ nat_lt k n
        shift k n = grind (arith, nat_tests)
    by_test false k n all e = lt-ltb 0 (suc n) (omega arith)

none_by : (b all : Bool) (k : ℕ) → b ≡ not all → is_none (cond b (Some k) None) ≡ all
none_by true true k e = absurd (true≢false e)
none_by true false k e = refl
none_by false true k e = refl
none_by false false k e = absurd (true≢false (sym e))

pub none-failing : {A : Type 0} → (test : A → Bool) (xs : List A) → is_none (first_failing test xs) ≡ list_all test xs
none-failing test xs = none_by (nat_lt (position_or_len (λ x. not (test x)) xs) (length xs)) (list_all test xs) (position_or_len (λ x. not (test x)) xs) (failing_by test xs)

pub none-numbered : {A : Type 0} → (test : ℕ → A → Bool) (xs : List A) → is_none (first_failing_numbered test xs) ≡ all_numbered test xs
none-numbered test xs = none-failing (λ p. test p.0 p.1) (enumerate_from 0 xs)

pub numbered_pass : {A : Type 0} → (test : ℕ → A → Bool) (xs : List A) → first_failing_numbered test xs ≡ None → all_numbered test xs ≡ true
numbered_pass test xs e = sym (none-numbered test xs) ∙ ap is_none e

pub none-from : {A : Type 0} → (fault : ℕ → A → Option CheckFault) (test : A → Bool) → ((n : ℕ) (x : A) → is_none (fault n x) ≡ test x) → (n : ℕ) (xs : List A) → is_none (first_from fault n xs) ≡ list_all test xs
none-from fault test h n [] = refl
none-from fault test h n (x ∷ xs) = none-or (fault n x) (first_from fault (n + 1) xs) ∙ ap₂ (λ (a b : Bool). a && b) (h n x) (none-from fault test h (n + 1) xs)

-- two tests of each item

pub swap_middle : (a b c d : Bool) → ((a && b) && (c && d)) ≡ ((a && c) && (b && d))
swap_middle true true c d = refl
swap_middle true false true d = refl
swap_middle true false false d = refl
swap_middle false b c d = refl

pub all-both : {A : Type 0} → (p q : A → Bool) (xs : List A) → list_all (λ x. p x && q x) xs ≡ (list_all p xs && list_all q xs)
all-both p q [] = refl
all-both p q (x ∷ xs) = ap (λ (b : Bool). (p x && q x) && b) (all-both p q xs) ∙ swap_middle (p x) (q x) (list_all p xs) (list_all q xs)

pub all_same : {A : Type 0} → (p q : A → Bool) → ((x : A) → p x ≡ q x) → (xs : List A) → list_all p xs ≡ list_all q xs
all_same p q h [] = refl
all_same p q h (x ∷ xs) = ap₂ (λ (a b : Bool). a && b) (h x) (all_same p q h xs)

-- a test that doesn't look at the number
pub all-unnumbered : {A : Type 0} → (p : A → Bool) (n : ℕ) (xs : List A) → list_all (λ q. p q.1) (enumerate_from n xs) ≡ list_all p xs
all-unnumbered p n [] = refl
all-unnumbered p n (x ∷ xs) = ap (λ (b : Bool). p x && b) (all-unnumbered p (n + 1) xs)
