-- Starts that tie are those of one transition and place.
use Rattle.std.proofs.Common.{◌≡◌, ℕ, ◌==◌, ◌&&◌, not, Bool, List, [], ◌∷◌, filter, refl, sym, ◌∙◌, arith}
use Rattle.std.specs.List.Sorted.{ties, IsStableByKey}
use Rattle.std.specs.Ordering.{is_lt}
use Rattle.std.proofs.lemmas.Bool.Decides.{nat_tests}
use Rattle.wf_model.specs.declared.update.StartAt.{StartAt}
use Rattle.wf_actions.specs.Order.{place_of, place_cmp, is_at}

filter_agree : {X : Type 0} (p q : X → Bool) → ((x : X) → p x ≡ q x) → (xs : List X) → filter p xs ≡ filter q xs
filter_agree p q e [] = refl
filter_agree p q e (x ∷ xs) = rw (e x, filter_agree p q e xs) refl

tie : (t p u q : ℕ) → (not (is_lt (place_cmp (t, p) (u, q))) && not (is_lt (place_cmp (u, q) (t, p)))) ≡ ((u == t) && (q == p))
tie t p u q = grind (arith, nat_tests)

pub stays : (xs ys : List StartAt) → IsStableByKey place_of place_cmp xs ys → (t place : ℕ) → filter (is_at t place) ys ≡ filter (is_at t place) xs
stays xs ys h t place =
    let s : StartAt = record { act = record { 0 = 0 }; trans = record { 0 = t }; place = place } in
    let agree = filter_agree (ties (λ x y. is_lt (place_cmp (place_of x) (place_of y))) s) (is_at t place) (λ y. tie t place y.trans.0 y.place) in
    sym (agree ys) ∙ h s ∙ agree xs
