-- Which items are done, and the list.
use Rattle.std.proofs.Common.{◌≡◌, ℕ, suc, ◌+◌, ◌<◌, ◌≤◌, ◌||◌, Bool, List, [], ◌∷◌, ◌++◌, map, length, take, get_or, refl, sym, ap, ap₂, ◌∙◌, arith}
use Rattle.std.specs.List.{list_any, enumerate_from}
use Rattle.std.proofs.lemmas.List.{take_more, length-take-le}
use Rattle.std.proofs.lemmas.Slice.Zip.{length-zip}
use Rattle.wf_model.specs.declared.outer.Outer.{Outer}
use Rattle.wf_semantics.specs.Items.{Item}
use Rattle.wf_activities.specs.UnitItems.{UnitItems, started_of}
use Rattle.wf_histories.specs.Histories.{Admission}
use Rattle.wf_worlds.specs.Admitting.{outers}

-- a test of what was admitted
pub any_outer : (p : Outer → Bool) (xs : List Admission) → list_any (λ a. p a.outer) xs ≡ list_any p (outers xs)
any_outer p [] = refl
any_outer p (x ∷ xs) = ap (λ (b : Bool). p x.outer || b) (any_outer p xs)

-- THE LIST

acts_long : (xs : List Item) → length (map (λ x. x.act) xs) ≡ length xs
acts_long [] = refl
acts_long (x ∷ xs) = ap suc (acts_long xs)

pub started_short : (items : UnitItems) → length (started_of items) ≤ length items.items
started_short items = omega (arith, length-zip (map (λ x. x.act) items.items) items.steps, acts_long items.items)

enumerate_push : {A B : Type 0} (f : ℕ × A → B) (n : ℕ) (xs : List A) (x : A) (k : ℕ) → k ≡ n + length xs → map f (enumerate_from n (xs ++ x ∷ [])) ≡ map f (enumerate_from n xs) ++ f (k, x) ∷ []
enumerate_push {A} {B} f n [] x k e = ap (λ (m : ℕ). f (m, x) ∷ []) (let q : n ≡ k = omega (arith, e) in q)
enumerate_push {A} {B} f n (y ∷ ys) x k e = ap (λ (l : List B). f (n, y) ∷ l) (enumerate_push f (n + 1) ys x k (omega (arith, e)))

pub list_more : {A B : Type 0} (f : ℕ × A → B) (xs : List A) (i : ℕ) (d : A) (ys : List B) (y : B) → i < length xs → ys ≡ map f (enumerate_from 1 (take i xs)) → y ≡ f (i + 1, get_or xs i d) → ys ++ y ∷ [] ≡ map f (enumerate_from 1 (take (i + 1) xs))
list_more {A} {B} f xs i d ys y lt e is =
    ap₂ (λ (l : List B) (b : B). l ++ b ∷ []) e is
    ∙ sym (enumerate_push f 1 (take i xs) (get_or xs i d) (i + 1) (omega (arith, length-take-le i xs (omega (arith, lt)))))
    ∙ ap (λ (l : List A). map f (enumerate_from 1 l)) (sym (take_more xs i d lt))
