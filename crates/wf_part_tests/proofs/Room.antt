-- Counts of open items, from tests to facts.
use Rattle.std.proofs.Common.{◌≡◌, ◌∙◌, ◌≤◌, ◌*◌, ℕ, Bool, true, false, List, All, length, get_or, refl, sym, arith, true≢false}
use Rattle.std.specs.Prelude.{nat_le}
use Rattle.std.specs.List.{list_all}
use Rattle.std.proofs.lemmas.Bool.{leb-true}
use Rattle.std.proofs.lemmas.List.Folds.{list_all_at}
use Rattle.wf_model.specs.Limits.{max_units, max_transitions, max_actions}
use Rattle.wf_model.specs.declared.ids.ActId.{ActId}
use Rattle.wf_model.specs.declared.update.Update.{Update}
use Rattle.wf_views.specs.Views.{View}
use Rattle.wf_flat.specs.Locking.{HasFewStarts, HasFewOpen, HasRoomFor}
use Rattle.wf_flat.proofs.Bounds.{has_room}

all_from : {A : Type 0} (p : A → Bool) (P : A → Type 0) → ((x : A) → p x ≡ true → P x) → (xs : List A) → list_all p xs ≡ true → All P xs
all_from p P each xs h k d lt = each (get_or xs k d) (go (p (get_or xs k d)) refl)
  where
    go : (b : Bool) → p (get_or xs k d) ≡ b → p (get_or xs k d) ≡ true
    go true e = e
    go false e = absurd (true≢false (sym h ∙ list_all_at p xs k d lt e))

few_open : (view : View) → list_all (λ a. nat_le a.1 131072) view.unclosed ≡ true → HasFewOpen 1 view
few_open view h =
    all_from (λ (a : ActId × ℕ). nat_le a.1 131072) (λ (a : ActId × ℕ). a.1 ≤ max_units * (max_transitions * max_actions) * 1)
    (λ a e. let le : a.1 ≤ 131072 = leb-true a.1 131072 e in omega arith) view.unclosed h

few_starts : (updates : List Update) → list_all (λ update. nat_le (length update.starts) (max_transitions * max_actions)) updates ≡ true → All HasFewStarts updates
few_starts updates h =
    all_from (λ (update : Update). nat_le (length update.starts) (max_transitions * max_actions)) HasFewStarts
    (λ update e. leb-true (length update.starts) (max_transitions * max_actions) e) updates h

pub room_for : (view : View) (updates : List Update) → length updates ≤ max_units → list_all (λ update. nat_le (length update.starts) (max_transitions * max_actions)) updates ≡ true
    → list_all (λ a. nat_le a.1 131072) view.unclosed ≡ true → HasRoomFor updates view
room_for view updates few starts unclosed = has_room view updates 1 (few_open view unclosed) (few_starts updates starts) few (omega arith)
