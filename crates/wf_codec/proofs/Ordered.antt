-- Lists in an order, from their ends.
use Rattle.std.proofs.Common.{◌≡◌, ℕ, zero, suc, ◌-◌, ◌≤◌, Bool, true, List, [], ◌∷◌, length, drop, refl, arith}
use Rattle.wf_codec.specs.Deciding.{are_in_order}

-- no pair is left
none_left : {A : Type 0} (R : A → A → Bool) (xs : List A) (k : ℕ) → length xs ≤ suc k → are_in_order R (drop k xs) ≡ true
none_left R [] zero le = refl
none_left R [] (suc k) le = refl
none_left R (a ∷ []) zero le = refl
none_left R (a ∷ []) (suc zero) le = refl
none_left R (a ∷ []) (suc (suc k)) le = refl
none_left R (a ∷ (b ∷ bs)) zero le = absurd (omega arith)
none_left R (a ∷ (b ∷ bs)) (suc k) le = none_left R (b ∷ bs) k (omega arith)

pub order_ends : {A : Type 0} (R : A → A → Bool) (xs : List A) (at : ℕ) → length xs ≤ at → are_in_order R (drop (at - 1) xs) ≡ true
order_ends R xs at le = none_left R xs (at - 1) (omega arith)
