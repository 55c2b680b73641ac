-- The write that stays, one write after another.
use Rattle.std.proofs.Common.{◌≡◌, ℕ, zero, suc, ◌+◌, ◌<◌, ◌≤◌, max, List, [], ◌∷◌, length, get_or, take, fold, filter_map, map, Option, None, refl, sym, ap, subst, ◌∙◌, arith}
use Rattle.std.specs.List.{range_with_len}
use Rattle.std.proofs.lemmas.List.FromFn.{fill_by_all}
use Rattle.std.proofs.lemmas.List.{take_all}
use Rattle.wf_model.specs.declared.update.Write.{Write}
use Rattle.wf_actions.specs.Writes.{winner, past_variables}

pub above_start : (n : ℕ) (ws : List Write) → n ≤ fold (λ past write. max past (write.var.0 + 1)) n ws
above_start n [] = omega arith
above_start n (w ∷ ws) = omega (arith, above_start (max n (w.var.0 + 1)) ws)

below_past : (n : ℕ) (ws : List Write) (i : ℕ) (d : Write) → i < length ws → (get_or ws i d).var.0 < fold (λ past write. max past (write.var.0 + 1)) n ws
below_past n [] i d h = absurd (omega arith)
below_past n (w ∷ ws) zero d h = omega (arith, above_start (max n (w.var.0 + 1)) ws)
below_past n (w ∷ ws) (suc i) d h = below_past (max n (w.var.0 + 1)) ws i d (omega arith)

-- the variable of a write is below `past_variables`
pub variable_below : (ws : List Write) (i : ℕ) (d : Write) → i < length ws → (get_or ws i d).var.0 < past_variables ws
variable_below ws i d h = below_past 0 ws i d h

-- the same at an item that the loop reads
pub item_below : (ws : List Write) (i : ℕ) (w : Write) → w ≡ get_or ws i w → i < length ws → w.var.0 < past_variables ws
item_below ws i w e h = subst (λ (v : Write). v.var.0 < past_variables ws) (sym e) (variable_below ws i w h)

-- the table after the loop over the writes
pub winners_all : (ws : List Write) (best : List (Option Write)) (i : ℕ) → length ws ≤ i → length best ≡ past_variables ws → ((x : ℕ) → x < past_variables ws → get_or best x None ≡ winner x (take i ws)) → best ≡ map (λ x. winner x ws) (range_with_len 0 (past_variables ws))
winners_all ws best i h n all =
    let whole : take i ws ≡ ws = take_all i ws h in
    fill_by_all (λ x. winner x ws) best (past_variables ws) None n (λ x l. all x l ∙ ap (λ (ys : List Write). winner x ys) whole)

-- what is present of a table
pub present_map : {A : Type 0} (f : ℕ → Option A) (xs : List ℕ) → filter_map (λ slot. slot) (map f xs) ≡ filter_map f xs
present_map f [] = refl
present_map f (x ∷ xs) = rw (present_map f xs) refl
