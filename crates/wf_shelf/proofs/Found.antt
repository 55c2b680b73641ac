-- What a search finds in a list, before and after the place that it found was written.
use Rattle.std.specs.List.{position_or_len, slice_get}
use Rattle.std.proofs.Common.{◌≡◌, ◌≢◌, ℕ, zero, suc, ◌+◌, ◌<◌, ◌≤◌, Bool, true, false, not, cond, List, [], ◌∷◌, ◌++◌, length, find, Option, Some, None, slice_set, refl, sym, ap, arith, ◌∙◌, true≢false}

-- a search that passes over the first goes on within the rest
tail_within : (b : Bool) (n m k : ℕ) → m ≡ k + 1 → cond (not b) (1 + n) 0 < m → b ≡ false → n < k
tail_within true n m k size within passed = absurd (true≢false passed)
tail_within false n m k size within passed = omega (arith, within, size)

tail_past : (b : Bool) (n m k : ℕ) → m ≡ k + 1 → m ≤ cond (not b) (1 + n) 0 → (b ≡ false) × (k ≤ n)
tail_past true n m k size past = absurd (omega (arith, past, size))
tail_past false n m k size past = (refl, omega (arith, past, size))

module _ {X : Type 0} where
  first_at : (b : Bool) (x : X) (xs : List X) (n : ℕ) (found : Option X) → (b ≡ false → slice_get xs n ≡ found)
      → slice_get (x ∷ xs) (cond (not b) (1 + n) 0) ≡ cond b (Some x) found
  first_at true x xs n found rest = refl
  first_at false x xs n found rest = let next : 1 + n ≡ suc n = omega arith in rw next (rest refl)

  -- what stands at the place that a search gives is what it finds
  pub found_at : (p : X → Bool) (xs : List X) → position_or_len p xs < length xs → slice_get xs (position_or_len p xs) ≡ find p xs
  found_at p [] within = absurd (omega (arith, within))
  found_at p (x ∷ xs) within =
      first_at (p x) x xs (position_or_len p xs) (find p xs)
      (λ passed. found_at p xs (tail_within (p x) (position_or_len p xs) (length (x ∷ xs)) (length xs) (omega arith) within passed))

  first_written : (p : X → Bool) (b : Bool) (x : X) (xs : List X) (n : ℕ) (y : X) → p x ≡ b → p y ≡ true → (b ≡ false → find p (slice_set xs n y) ≡ Some y)
      → find p (slice_set (x ∷ xs) (cond (not b) (1 + n) 0) y) ≡ Some y
  first_written p true x xs n y is holds rest = rw holds refl
  first_written p false x xs n y is holds rest = let next : 1 + n ≡ suc n = omega arith in rw (next, is) (rest refl)

  -- after that place was written it is still found, with what was written
  pub found_written : (p : X → Bool) (xs : List X) (y : X) → position_or_len p xs < length xs → p y ≡ true → find p (slice_set xs (position_or_len p xs) y) ≡ Some y
  found_written p [] y within holds = absurd (omega (arith, within))
  found_written p (x ∷ xs) y within holds =
      first_written p (p x) x xs (position_or_len p xs) y refl holds
      (λ passed. found_written p xs y (tail_within (p x) (position_or_len p xs) (length (x ∷ xs)) (length xs) (omega arith) within passed) holds)

  -- where another search passes over the old and the new it finds what it found
  pub other_written : (q : X → Bool) (xs : List X) (i : ℕ) (x y : X) → slice_get xs i ≡ Some x → q x ≡ false → q y ≡ false → find q (slice_set xs i y) ≡ find q xs
  other_written q [] i x y at old new = refl
  other_written q (z ∷ xs) zero x y at old new = let same : z ≡ x = cc in let passed : q z ≡ false = ap q same ∙ old in rw (new, passed) refl
  other_written q (z ∷ xs) (suc i) x y at old new = ap (λ found. cond (q z) (Some z) found) (other_written q xs i x y at old new)

  -- none found at the end of the search
  pub none_found : (p : X → Bool) (xs : List X) → length xs ≤ position_or_len p xs → find p xs ≡ None
  none_found p [] past = refl
  none_found p (x ∷ xs) past =
      let over = tail_past (p x) (position_or_len p xs) (length (x ∷ xs)) (length xs) (omega arith) past in
      rw (over.0) (none_found p xs over.1)

  -- where none was found, none was the first
  none_first : (b : Bool) (x : X) (found : Option X) → cond b (Some x) found ≡ None → (b ≡ false) × (found ≡ None)
  none_first true x found none = cc
  none_first false x found none = (refl, none)

  -- one more at the end, where there was none
  pub found_added : (p : X → Bool) (xs : List X) (y : X) → find p xs ≡ None → p y ≡ true → find p (xs ++ y ∷ []) ≡ Some y
  found_added p [] y none holds = rw holds refl
  found_added p (x ∷ xs) y none holds =
      let over = none_first (p x) x (find p xs) none in
      rw (over.0) (found_added p xs y over.1 holds)

  -- one more at the end, which another search passes over
  pub other_added : (q : X → Bool) (xs : List X) (y : X) → q y ≡ false → find q (xs ++ y ∷ []) ≡ find q xs
  other_added q [] y new = rw new refl
  other_added q (x ∷ xs) y new = ap (λ found. cond (q x) (Some x) found) (other_added q xs y new)

  holds_first : (p : X → Bool) (b : Bool) (x : X) (found : Option X) (y : X) → p x ≡ b → cond b (Some x) found ≡ Some y → (found ≡ Some y → p y ≡ true) → p y ≡ true
  holds_first p true x found y is gives rest = let same : y ≡ x = cc in ap p same ∙ is
  holds_first p false x found y is gives rest = rest gives

  -- a search looks for what it finds
  pub found_holds : (p : X → Bool) (xs : List X) (y : X) → find p xs ≡ Some y → p y ≡ true
  found_holds p [] y found = cc
  found_holds p (x ∷ xs) y found = holds_first p (p x) x (find p xs) y refl found (λ later. found_holds p xs y later)
