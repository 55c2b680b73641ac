-- Numbers that were sorted and then taken once each.
use Rattle.std.proofs.Common.{◌≡◌, ◌↔◌, ℕ, eqb, List, [], Contains, ◌∙◌, sym, subst}
use Rattle.std.specs.List.Sorted.{IsPermutation, IsSorted, IsStrictlyIncreasing}
use Rattle.std.specs.List.Retain.{IsFiltered, DiffersFromLast}
use Rattle.std.specs.Ordering.{nat_cmp}
use Rattle.std.proofs.lemmas.List.Filters.{dedup_is}
use Rattle.std.proofs.lemmas.List.Kept.{Contains-dedup_nat, Contains-from_dedup}
use Rattle.std.proofs.lemmas.List.Sorted.{Contains-permutation, IsPermutation-sym}
use Rattle.std.proofs.lemmas.Map.Keys.{IsStrictlyIncreasing-dedup}

pub ascends : (sorted kept shown : List ℕ) → IsSorted nat_cmp sorted → IsFiltered (DiffersFromLast eqb) [] sorted kept → shown ≡ kept → IsStrictlyIncreasing shown
ascends sorted kept shown up f e = rw (e, dedup_is eqb sorted kept f) (IsStrictlyIncreasing-dedup sorted up)

pub united : (given all sorted kept shown : List ℕ) → all ≡ given → IsPermutation all sorted → IsFiltered (DiffersFromLast eqb) [] sorted kept → shown ≡ kept → (e : ℕ) → Contains shown e ↔ Contains given e
united given all sorted kept shown same moved f e x =
    let is = e ∙ dedup_is eqb sorted kept f in (
      (λ h. subst (λ (l : List ℕ). Contains l x) same (Contains-permutation sorted all x (IsPermutation-sym all sorted moved) (Contains-from_dedup eqb sorted x (subst (λ (l : List ℕ). Contains l x) is h)))),
      (λ h. subst (λ (l : List ℕ). Contains l x) (sym is) (Contains-dedup_nat sorted x (Contains-permutation all sorted x moved (subst (λ (l : List ℕ). Contains l x) (sym same) h)))),
    )
