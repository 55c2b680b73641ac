-- The raised events, one bit after another.
use Rattle.std.proofs.Common.{◌≡◌, ℕ, ◌+◌, Bool, cond, List, [], ◌∷◌, ◌++◌, map, filter, ap, ◌∙◌}
use Rattle.std.specs.List.{range_with_len}
use Rattle.std.proofs.lemmas.List.{map-append}
use Rattle.std.proofs.lemmas.List.Elements.{filter-append}
use Rattle.wf_model.proofs.Rows.{range_more}

-- one number more that may pass
pub filter_more : {A : Type 0} (f : ℕ → A) (p : ℕ → Bool) (i : ℕ) → map f (filter p (range_with_len 0 (i + 1))) ≡ map f (filter p (range_with_len 0 i)) ++ map f (cond (p i) (i ∷ []) [])
filter_more f p i =
    ap (λ (ns : List ℕ). map f (filter p ns)) (range_more i)
    ∙ ap (map f) (filter-append p (range_with_len 0 i) (i ∷ []))
    ∙ map-append f (filter p (range_with_len 0 i)) (filter p (i ∷ []))
