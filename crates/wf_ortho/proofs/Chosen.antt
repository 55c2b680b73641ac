-- The numbers that pass a test, one more at a time.
use Rattle.std.proofs.Common.{◌≡◌, ℕ, ◌+◌, Bool, true, false, List, [], ◌∷◌, ◌++◌, map, filter, append-nil, refl}
use Rattle.std.specs.List.{range_with_len}
use Rattle.wf_model.specs.declared.ids.TransId.{TransId}
use Rattle.wf_model.specs.Ids.{trans_id}
use Rattle.wf_scopes.proofs.Lines.{filter_more_by}

-- the numbers below n that pass, as transitions
abbrev pub chosen : (ℕ → Bool) → ℕ → List TransId
chosen p n = map trans_id (filter p (range_with_len 0 n))

-- the next number passes
pub chosen_more : (p : ℕ → Bool) (i : ℕ) (ids : List TransId) → ids ≡ chosen p i → p i ≡ true → ids ++ trans_id i ∷ [] ≡ chosen p (i + 1)
chosen_more p i ids e h = rw (filter_more_by trans_id p i, h, e) refl

-- the next number doesn't
pub chosen_same : (p : ℕ → Bool) (i : ℕ) (ids : List TransId) → ids ≡ chosen p i → p i ≡ false → ids ≡ chosen p (i + 1)
chosen_same p i ids e h = rw (filter_more_by trans_id p i, h, append-nil) e
