-- Lists whose items all pass a test.
use Rattle.std.proofs.Common.{◌≡◌, ℕ, zero, suc, ◌+◌, Bool, true, List, [], ◌∷◌, Some, slice_get, sym, ap, ◌∙◌, subst, arith}
use Rattle.std.specs.List.{list_all, enumerate_from}
use Rattle.wf_model.specs.Accepted.{all_numbered}
use Rattle.wf_model.proofs.Bools.{and_both}

-- an item of a list whose items all pass
pub all_at : {A : Type 0} → (test : A → Bool) (xs : List A) → list_all test xs ≡ true → (i : ℕ) (x : A) → slice_get xs i ≡ Some x → test x ≡ true
all_at test [] h i x e = cc
all_at test (y ∷ xs) h zero x e = let same : y ≡ x = cc in ap test (sym same) ∙ (and_both (test y) (list_all test xs) h).0
all_at test (y ∷ xs) h (suc i) x e = all_at test xs (and_both (test y) (list_all test xs) h).1 i x e

-- an item of a list whose items all pass with their numbers
pub numbered_at : {A : Type 0} → (test : ℕ → A → Bool) (xs : List A) → all_numbered test xs ≡ true → (i : ℕ) (x : A) → slice_get xs i ≡ Some x → test i x ≡ true
numbered_at {A = A} test xs h i x e = go 0 i xs h (omega arith) e
  where
    go : (a j : ℕ) (ys : List A) → list_all (λ p. test p.0 p.1) (enumerate_from a ys) ≡ true → a + j ≡ i → slice_get ys j ≡ Some x → test i x ≡ true
    go a j [] h s e = cc
    go a zero (y ∷ ys) h s e =
        let same : y ≡ x = cc in
        let at : a ≡ i = omega arith in
        subst (λ (k : ℕ). test k x ≡ true) at (subst (λ (z : A). test a z ≡ true) same (and_both (test a y) (list_all (λ p. test p.0 p.1) (enumerate_from (a + 1) ys)) h).0)
    go a (suc j) (y ∷ ys) h s e = go (a + 1) j ys (and_both (test a y) (list_all (λ p. test p.0 p.1) (enumerate_from (a + 1) ys)) h).1 (omega arith) e
