-- The unit's items with one record more.
use Rattle.std.proofs.Common.{◌≡◌, ℕ, zero, suc, ◌+◌, ◌<◌, ◌≤◌, ◌==◌, ◌||◌, Bool, true, false, List, [], ◌∷◌, ◌++◌, map, length, refl, sym, ap, ap₂, ◌∙◌, arith, length-append, eqb-true, eq-eqb, add-suc}
use Rattle.wf_model.specs.declared.ids.ActId.{ActId}
use Rattle.wf_semantics.specs.Items.{Item, new_item, close}
use Rattle.wf_steps.specs.Items.{items_from}

pub length_items : (closed : ℕ → Bool) (n : ℕ) (acts : List ActId) → length (items_from closed n acts) ≡ length acts
length_items closed n [] = refl
length_items closed n (a ∷ acts) = ap suc (length_items closed (suc n) acts)

-- only which of these numbers are closed matters
pub items_alike : (p q : ℕ → Bool) (n : ℕ) (acts : List ActId) → ((k : ℕ) → n ≤ k → k < n + length acts → p k ≡ q k) → items_from p n acts ≡ items_from q n acts
items_alike p q n [] same = refl
items_alike p q n (a ∷ acts) same =
    ap₂ (λ (b : Bool) (l : List Item). record { act = a; closed = b } ∷ l) (same n (omega arith) (omega arith))
    (items_alike p q (suc n) acts (λ k l m. same k (omega arith) (omega arith)))

-- new items, none of which is closed
pub items_more : (p : ℕ → Bool) (n : ℕ) (acts more : List ActId) → ((k : ℕ) → n + length acts ≤ k → p k ≡ false) → items_from p n (acts ++ more) ≡ items_from p n acts ++ map new_item more
items_more p n [] [] none = refl
items_more p n [] (a ∷ more) none =
    ap₂ (λ (b : Bool) (l : List Item). record { act = a; closed = b } ∷ l) (none n (omega arith)) (items_more p (suc n) [] more (λ k l. none k (omega arith)))
items_more p n (a ∷ acts) more none = ap (λ (l : List Item). record { act = a; closed = p n } ∷ l) (items_more p (suc n) acts more (λ k l. none k (omega arith)))

-- one item closed
pub items_closed : (p : ℕ → Bool) (n m : ℕ) (acts : List ActId) → items_from (λ k. p k || ((n + m) == k)) (suc n) acts ≡ close m (items_from p (suc n) acts)
items_closed p n m [] = refl
items_closed p n zero (a ∷ acts) = items_alike (λ k. p k || ((n + zero) == k)) p (suc n) (a ∷ acts) (λ k l _. other (p k) ((n + zero) == k) (λ e. omega (arith, eqb-true (n + zero) k e)))
  where
    other : (b c : Bool) → (c ≡ true → ⊥) → (b || c) ≡ b
    other true c never = refl
    other false true never = absurd (never refl)
    other false false never = refl
items_closed p n (suc zero) (a ∷ acts) =
    ap₂ (λ (b : Bool) (l : List Item). record { act = a; closed = b } ∷ l) (this (p (suc n)) ((n + suc zero) == suc n) (eq-eqb (n + suc zero) (suc n) (omega arith)))
    (items_alike (λ k. p k || ((n + suc zero) == k)) p (suc (suc n)) acts (λ k l _. other (p k) ((n + suc zero) == k) (λ e. omega (arith, eqb-true (n + suc zero) k e))))
  where
    this : (b c : Bool) → c ≡ true → (b || c) ≡ true
    this true c e = refl
    this false c e = e

    other : (b c : Bool) → (c ≡ true → ⊥) → (b || c) ≡ b
    other true c never = refl
    other false true never = absurd (never refl)
    other false false never = refl
items_closed p n (suc (suc m)) (a ∷ acts) =
    ap₂ (λ (b : Bool) (l : List Item). record { act = a; closed = b } ∷ l) (other (p (suc n)) ((n + suc (suc m)) == suc n) (λ e. omega (arith, eqb-true (n + suc (suc m)) (suc n) e)))
    (items_alike (λ k. p k || ((n + suc (suc m)) == k)) (λ k. p k || ((suc n + suc m) == k)) (suc (suc n)) acts (λ k l _. ap (λ x. p k || (x == k)) (let e : n + suc (suc m) ≡ suc n + suc m = omega arith in e))
    ∙ items_closed p (suc n) (suc m) acts)
  where
    other : (b c : Bool) → (c ≡ true → ⊥) → (b || c) ≡ b
    other true c never = refl
    other false true never = absurd (never refl)
    other false false never = refl
