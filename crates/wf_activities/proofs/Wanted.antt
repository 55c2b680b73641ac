-- Whether outputs are the wanted ones, place by place.
use Rattle.std.proofs.Common.{◌≡◌, ℕ, suc, ◌+◌, ◌<◌, ◌≤◌, ◌&&◌, Bool, true, false, List, [], ◌∷◌, length, get_or, drop, refl, sym, ◌∙◌, ap, ap₂, add-one, drop-cons}
use Rattle.std.proofs.lemmas.List.{drop_all}
use Rattle.wf_model.specs.declared.ids.VarId.{VarId}
use Rattle.wf_model.specs.declared.value.Sort.{Sort}
use Rattle.wf_model.specs.declared.outer.Output.{Output}
use Rattle.wf_activities.specs.Completing.{is_wanted, are_wanted}

pub other_number : (ws : List (VarId × Sort)) (os : List Output) → (length ws ≡ length os → ⊥) → are_wanted ws os ≡ false
other_number [] [] h = absurd (h refl)
other_number [] (o ∷ os) h = refl
other_number (w ∷ ws) [] h = refl
other_number (w ∷ ws) (o ∷ os) h = ap (λ (b : Bool). is_wanted w o && b) (other_number ws os (λ e. h (ap suc e))) ∙ and_false (is_wanted w o)
  where
    and_false : (b : Bool) → (b && false) ≡ false
    and_false true = refl
    and_false false = refl

pub at_place : (ws : List (VarId × Sort)) (os : List Output) (i : ℕ) (w : VarId × Sort) (o : Output) → i < length ws → i < length os → w ≡ get_or ws i w → o ≡ get_or os i o
    → are_wanted (drop i ws) (drop i os) ≡ (is_wanted w o && are_wanted (drop (i + 1) ws) (drop (i + 1) os))
at_place ws os i w o lw lo ew eo =
    ap₂ are_wanted (drop-cons ws i w lw) (drop-cons os i o lo)
    ∙ ap₂ (λ (v : VarId × Sort) (p : Output). is_wanted v p && are_wanted (drop (suc i) ws) (drop (suc i) os)) (sym ew) (sym eo)
    ∙ ap (λ (j : ℕ). is_wanted w o && are_wanted (drop j ws) (drop j os)) (sym (add-one i))

pub all_passed : (ws : List (VarId × Sort)) (os : List Output) (i : ℕ) → length ws ≤ i → length os ≤ i → are_wanted (drop i ws) (drop i os) ≡ true
all_passed ws os i lw lo = ap₂ are_wanted (drop_all i ws lw) (drop_all i os lo)
