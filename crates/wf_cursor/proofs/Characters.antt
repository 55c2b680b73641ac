-- What passes a test, character by character.
use Rattle.std.proofs.Common.{◌≡◌, ℕ, ◌+◌, ◌<◌, Bool, true, List, [], ◌∷◌, ◌++◌, length, drop, get_or, refl, sym, ap, ◌∙◌, append_assoc, add-one, drop-cons}
use Rattle.std.proofs.lemmas.List.Sums.{take_while-cons}
use Rattle.std.specs.List.{take_while}

pub passes_more : (p : ℕ → Bool) (xs : List ℕ) (i : ℕ) → i < length xs → p (get_or xs i 0) ≡ true → take_while p (drop i xs) ≡ get_or xs i 0 ∷ take_while p (drop (i + 1) xs)
passes_more p xs i within passes = rw (add-one, drop-cons xs i 0) (rw take_while-cons (rw passes refl))

-- a character more leaves the whole as it is
pub whole_more : (p : ℕ → Bool) (xs : List ℕ) (i : ℕ) (text new whole : List ℕ) → i < length xs → p (get_or xs i 0) ≡ true → new ≡ text ++ get_or xs i 0 ∷ [] → text ++ take_while p (drop i xs) ≡ whole
    → new ++ take_while p (drop (i + 1) xs) ≡ whole
whole_more p xs i text new whole within passes grown so_far =
    ap (λ t. t ++ take_while p (drop (i + 1) xs)) grown
    ∙ append_assoc text (get_or xs i 0 ∷ []) (take_while p (drop (i + 1) xs))
    ∙ ap (λ rest. text ++ rest) (sym (passes_more p xs i within passes))
    ∙ so_far
