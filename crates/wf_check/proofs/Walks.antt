-- One step of a walk up the tree.
use Rattle.std.proofs.Common.{◌≡◌, ℕ, zero, suc, ◌+◌, ◌==◌, true, [], ◌∷◌, Option, Some, None, refl, ap, arith, eq-eqb}
use Rattle.std.proofs.lemmas.Bool.{or_left}
use Rattle.wf_model.specs.Tree.{ancestors_by, is_among}

pub walk_end : (up : ℕ → Option ℕ) (n s : ℕ) → n ≡ 0 → ancestors_by up n s ≡ []
unfolding ancestors_by
walk_end up zero s e = refl
walk_end up (suc n) s e = absurd (omega arith)

pub walk_none : (up : ℕ → Option ℕ) (n s : ℕ) → up s ≡ None → ancestors_by up n s ≡ []
unfolding ancestors_by
walk_none up zero s e = refl
walk_none up (suc n) s e = rw e

pub walk_some : (up : ℕ → Option ℕ) (n m s p : ℕ) → n ≡ m + 1 → up s ≡ Some p → ancestors_by up n s ≡ p ∷ ancestors_by up m p
unfolding ancestors_by
walk_some up zero m s p h e = absurd (omega arith)
walk_some up (suc n) m s p h e =
    let same : n ≡ m = omega arith in
    rw e (ap (λ (k : ℕ). p ∷ ancestors_by up k p) same)

-- a walk that comes to a has found it
pub walk_found : (up : ℕ → Option ℕ) (n m s p a : ℕ) → n ≡ m + 1 → up s ≡ Some p → p ≡ a → is_among (ancestors_by up n s) a ≡ true
walk_found up n m s p a h e found = rw (walk_some up n m s p h e) (or_left (p == a) (is_among (ancestors_by up m p) a) (eq-eqb p a found))
