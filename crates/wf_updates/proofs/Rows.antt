-- Tables that are written one entry at a time.
use Rattle.std.proofs.Common.{◌≡◌, ◌≢◌, ℕ, zero, suc, ◌+◌, ◌<◌, ◌≤◌, ◌==◌, Bool, true, false, cond, List, [], ◌∷◌, length, map, take, filter, fold, get_or, set, Option, Some, None, refl, sym, ◌∙◌, ap, ap₂, arith, eq-eqb}
use Rattle.std.specs.Prelude.{replicate}
use Rattle.std.specs.List.{range_with_len}
use Rattle.std.proofs.lemmas.List.{length-take}
use Rattle.std.proofs.lemmas.List.Elements.{filter_more}
use Rattle.std.proofs.lemmas.List.Filters.{length-filter_more}
use Rattle.std.proofs.lemmas.List.Sums.{fold-append, fold_more}
use Rattle.wf_model.proofs.Rows.{row_agree}
use Rattle.wf_model.specs.declared.value.Val.{Val}
use Rattle.wf_model.specs.declared.outer.Output.{Output}
use Rattle.wf_model.specs.declared.update.Write.{Write}
use Rattle.wf_actions.specs.Writes.{of_variable, over, winner}
use Rattle.wf_updates.specs.Tables.{count_of, last_of}
use Rattle.wf_updates.proofs.NumberSets.{differ}

same_from : {A : Type 0} (x : A) (a n : ℕ) → replicate n x ≡ map (λ k. x) (range_with_len a n)
same_from x a zero = refl
same_from {A = A} x a (suc n) = ap (λ (l : List A). x ∷ l) (same_from x (a + 1) n)

-- one entry everywhere
pub row_same : {A : Type 0} (x : A) (n : ℕ) → replicate n x ≡ map (λ k. x) (range_with_len 0 n)
row_same x n = same_from x 0 n

rest_from : {A : Type 0} (f g : ℕ → A) (a count n : ℕ) → n < a → ((k : ℕ) → k ≢ n → g k ≡ f k) → map f (range_with_len a count) ≡ map g (range_with_len a count)
rest_from f g a zero n lt other = refl
rest_from {A = A} f g a (suc count) n lt other = ap₂ (λ (x : A) (l : List A). x ∷ l) (sym (other a (omega arith))) (rest_from f g (a + 1) count n (omega arith) other)

step_from : {A : Type 0} (f g : ℕ → A) (a count at n : ℕ) (x : A) → n ≡ a + at → g n ≡ x → ((k : ℕ) → k ≢ n → g k ≡ f k)
    → set (map f (range_with_len a count)) at x ≡ map g (range_with_len a count)
step_from f g a zero at n x e here other = refl
step_from {A = A} f g a (suc count) zero n x e here other =
    let same : n ≡ a = omega arith in
    ap₂ (λ (y : A) (l : List A). y ∷ l) (sym here ∙ ap g same) (rest_from f g (a + 1) count n (omega arith) other)
step_from {A = A} f g a (suc count) (suc at) n x e here other =
    ap₂ (λ (y : A) (l : List A). y ∷ l) (sym (other a (omega arith))) (step_from f g (a + 1) count at n x (omega arith) here other)

-- one entry is written
pub row_step : {A : Type 0} (f g : ℕ → A) (count at : ℕ) (x : A) (xs new : List A) → xs ≡ map f (range_with_len 0 count) → new ≡ set xs at x → g at ≡ x
    → ((k : ℕ) → k ≢ at → g k ≡ f k) → new ≡ map g (range_with_len 0 count)
row_step {A = A} f g count at x xs new before now here other =
    now ∙ ap (λ (l : List A). set l at x) before ∙ step_from f g 0 count at at x (omega arith) here other

-- none is
pub row_stays : {A : Type 0} (f g : ℕ → A) (count at : ℕ) (xs : List A) → xs ≡ map f (range_with_len 0 count) → count ≤ at
    → ((k : ℕ) → k ≢ at → g k ≡ f k) → xs ≡ map g (range_with_len 0 count)
row_stays f g count at xs before past other = before ∙ row_agree f g count (λ k lt. sym (other k (omega arith)))

-- one number more is counted

pub count_here : (numbers : List ℕ) (i at : ℕ) → i < length numbers → get_or numbers i 0 ≡ at → count_of (take (i + 1) numbers) at ≡ count_of (take i numbers) at + 1
count_here numbers i at lt e =
    length-filter_more (λ n. n == at) numbers i 0 lt ∙ ap (λ (b : Bool). count_of (take i numbers) at + cond b 1 0) (eq-eqb (get_or numbers i 0) at e)

pub count_other : (numbers : List ℕ) (i at k : ℕ) → i < length numbers → get_or numbers i 0 ≡ at → k ≢ at → count_of (take (i + 1) numbers) k ≡ count_of (take i numbers) k
count_other numbers i at k lt e ne =
    length-filter_more (λ n. n == k) numbers i 0 lt
    ∙ ap (λ (b : Bool). count_of (take i numbers) k + cond b 1 0) (differ (get_or numbers i 0) k (λ q. ne (sym q ∙ e)))
    ∙ omega arith

-- one output more

pub last_here : (outputs : List Output) (i at : ℕ) (o : Output) → i < length outputs → o ≡ get_or outputs i o → o.var.0 ≡ at → last_of (take (i + 1) outputs) at ≡ Some o.val
last_here outputs i at o lt is e =
    fold_more (λ (last : Option Val) (o : Output). cond (o.var.0 == at) (Some o.val) last) None outputs i o lt
    ∙ ap (λ (p : Output). cond (p.var.0 == at) (Some p.val) (last_of (take i outputs) at)) (sym is)
    ∙ ap (λ (b : Bool). cond b (Some o.val) (last_of (take i outputs) at)) (eq-eqb o.var.0 at e)

pub last_other : (outputs : List Output) (i at : ℕ) (o : Output) (k : ℕ) → i < length outputs → o ≡ get_or outputs i o → o.var.0 ≡ at → k ≢ at
    → last_of (take (i + 1) outputs) k ≡ last_of (take i outputs) k
last_other outputs i at o k lt is e ne =
    fold_more (λ (last : Option Val) (o : Output). cond (o.var.0 == k) (Some o.val) last) None outputs i o lt
    ∙ ap (λ (p : Output). cond (p.var.0 == k) (Some p.val) (last_of (take i outputs) k)) (sym is)
    ∙ ap (λ (b : Bool). cond b (Some o.val) (last_of (take i outputs) k)) (differ o.var.0 k (λ q. ne (sym q ∙ e)))

-- one write more

winner_more : (writes : List Write) (i k : ℕ) (w : Write) → i < length writes → w ≡ get_or writes i w
    → winner k (take (i + 1) writes) ≡ fold over (winner k (take i writes)) (cond (w.var.0 == k) (w ∷ []) [])
winner_more writes i k w lt is =
    ap (fold over None) (filter_more (λ write. write.var.0 == k) writes i w lt)
    ∙ fold-append over None (of_variable k (take i writes)) (cond ((get_or writes i w).var.0 == k) (get_or writes i w ∷ []) [])
    ∙ ap (λ (v : Write). fold over (winner k (take i writes)) (cond (v.var.0 == k) (v ∷ []) [])) (sym is)

pub winner_here : (writes : List Write) (i at : ℕ) (w : Write) → i < length writes → w ≡ get_or writes i w → w.var.0 ≡ at
    → winner at (take (i + 1) writes) ≡ over (winner at (take i writes)) w
winner_here writes i at w lt is e =
    winner_more writes i at w lt is ∙ ap (λ (b : Bool). fold over (winner at (take i writes)) (cond b (w ∷ []) [])) (eq-eqb w.var.0 at e)

pub winner_other : (writes : List Write) (i at : ℕ) (w : Write) (k : ℕ) → i < length writes → w ≡ get_or writes i w → w.var.0 ≡ at → k ≢ at
    → winner k (take (i + 1) writes) ≡ winner k (take i writes)
winner_other writes i at w k lt is e ne =
    winner_more writes i k w lt is ∙ ap (λ (b : Bool). fold over (winner k (take i writes)) (cond b (w ∷ []) [])) (differ w.var.0 k (λ q. ne (sym q ∙ e)))

filter_le : (p : ℕ → Bool) (xs : List ℕ) → length (filter p xs) ≤ length xs
filter_le p [] = omega arith
filter_le p (x ∷ xs) = go (p x) (filter_le p xs)
  where
    go : (b : Bool) → length (filter p xs) ≤ length xs → length (cond b (x ∷ filter p xs) (filter p xs)) ≤ length (x ∷ xs)
    go true h = omega arith
    go false h = omega arith

-- no more are counted than there are
pub count_small : (numbers : List ℕ) (i at : ℕ) → count_of (take i numbers) at ≤ i
count_small numbers i at = omega (arith, filter_le (λ n. n == at) (take i numbers), length-take i numbers)
