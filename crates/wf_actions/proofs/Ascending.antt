-- Numbers that ascend strictly.
use Rattle.std.proofs.Common.{◌≡◌, ◌⊎◌, ◌↔◌, ℕ, zero, suc, ◌+◌, ◌<◌, ◌≤◌, List, [], ◌∷◌, length, get_or, Contains, inl, inr, refl, sym, subst, arith}
use Rattle.std.specs.List.Sorted.{IsStrictlyIncreasing}

-- from lo on
abbrev pub Ascends : ℕ → List ℕ → Type 0
Ascends lo [] = Unit {0}
Ascends lo (x ∷ xs) = (lo ≤ x) × Ascends (x + 1) xs

pub ascends_from : (lo : ℕ) (xs : List ℕ) → (0 < length xs → lo ≤ get_or xs 0 0) → IsStrictlyIncreasing xs → Ascends lo xs
ascends_from lo [] h up = tt
ascends_from lo (x ∷ xs) h up =
    (h (omega arith), ascends_from (x + 1) xs (λ l. let next = up 0 (omega arith) in omega arith) (λ k l. step k (up (suc k) (omega arith))))
  where
    step : (k : ℕ) → get_or (x ∷ xs) (suc k) 0 < get_or (x ∷ xs) (suc k + 1) 0 → get_or xs k 0 < get_or xs (k + 1) 0
    step k h = let e : suc k + 1 ≡ suc (k + 1) = omega arith in subst (λ (m : ℕ). get_or xs k 0 < get_or (x ∷ xs) m 0) e h

contains_cases : (y : ℕ) (ys : List ℕ) (x : ℕ) → Contains (y ∷ ys) x → (y ≡ x) ⊎ Contains ys x
contains_cases y ys x (zero, l, e) = inl e
contains_cases y ys x (suc k, l, e) = inr (k, omega arith, e)

contains_head : (y : ℕ) (ys : List ℕ) → Contains (y ∷ ys) y
contains_head y ys = (0, omega arith, refl)

contains_tail : (y : ℕ) (ys : List ℕ) (x : ℕ) → Contains ys x → Contains (y ∷ ys) x
contains_tail y ys x (k, l, e) = (suc k, omega arith, e)

contains_from : (lo : ℕ) (xs : List ℕ) (x : ℕ) → Ascends lo xs → Contains xs x → lo ≤ x
contains_from lo [] x a (k, l, e) = absurd (omega arith)
contains_from lo (y ∷ ys) x a c = elim (contains_cases y ys x c) [
  | inl e ↦ omega (arith, a.0)
  | inr r ↦ omega (arith, a.0, contains_from (y + 1) ys x a.1 r)
]

none_in : (x : ℕ) → Contains [] x → ⊥
none_in x (k, l, e) = omega arith

one_list : (lo : ℕ) (xs ys : List ℕ) → Ascends lo xs → Ascends lo ys → ((e : ℕ) → Contains xs e → Contains ys e) → ((e : ℕ) → Contains ys e → Contains xs e) → xs ≡ ys
one_list lo [] [] a b f g = refl
one_list lo [] (y ∷ ys) a b f g = absurd (none_in y (g y (contains_head y ys)))
one_list lo (x ∷ xs) [] a b f g = absurd (none_in x (f x (contains_head x xs)))
one_list lo (x ∷ xs) (y ∷ ys) a b f g =
    let same : x ≡ y = elim (contains_cases y ys x (f x (contains_head x xs))) [
      | inl e ↦ sym e
      | inr r ↦ elim (contains_cases x xs y (g y (contains_head y ys))) [
        | inl e ↦ e
        | inr q ↦ absurd (omega (arith, contains_from (y + 1) ys x b.1 r, contains_from (x + 1) xs y a.1 q))
      ]
    ] in
    let rest : xs ≡ ys = one_list (x + 1) xs ys a.1 (subst (λ (z : ℕ). Ascends (z + 1) ys) (sym same) b.1)
    (λ e c. elim (contains_cases y ys e (f e (contains_tail x xs e c))) [
      | inl s ↦ absurd (omega (arith, contains_from (x + 1) xs e a.1 c))
      | inr r ↦ r
    ])
    (λ e c. elim (contains_cases x xs e (g e (contains_tail y ys e c))) [
      | inl s ↦ absurd (omega (arith, contains_from (y + 1) ys e b.1 c))
      | inr r ↦ r
    ]) in
    rw (same, rest) refl

-- two such lists with the same members are equal
pub one_union : (xs ys : List ℕ) → IsStrictlyIncreasing xs → IsStrictlyIncreasing ys → ((e : ℕ) → Contains xs e ↔ Contains ys e) → xs ≡ ys
one_union xs ys up vp same =
    one_list 0 xs ys (ascends_from 0 xs (λ l. omega arith) up) (ascends_from 0 ys (λ l. omega arith) vp) (λ e. (same e).0) (λ e. (same e).1)
