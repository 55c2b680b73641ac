-- The laws, of all lists of items.
use Rattle.std.proofs.Common.{◌≡◌, ℕ, zero, suc, ◌+◌, ◌≤◌, ◌==◌, ◌&&◌, ◌++◌, not, cond, Bool, true, false, List, [], ◌∷◌, Option, Some, None, length, map, filter, refl, sym, ◌∙◌, ap, ap₂, arith, true≢false, eq-eqb, eqb-true}
use Rattle.std.specs.List.{slice_get}
use Rattle.std.specs.Option.{option_map, option_map_or}
use Rattle.std.proofs.lemmas.Bool.Decides.{nat_tests}
use Rattle.wf_model.specs.declared.ids.VarId.{VarId}
use Rattle.wf_model.specs.declared.value.Sort.{Sort}
use Rattle.wf_model.specs.declared.chart.Chart.{Chart}
use Rattle.wf_model.specs.declared.outer.Output.{Output}
use Rattle.wf_model.specs.declared.update.StartAt.{StartAt}
use Rattle.wf_model.specs.Seen.{val_sort}
use Rattle.wf_model.specs.Sorts.{alike}
use Rattle.wf_semantics.specs.Items.{Item, new_item, one, item_at, open_count, close}
use Rattle.wf_semantics.specs.Admission.{is_closed, are_values}
use Rattle.wf_activities.specs.Completing.{are_wanted}
use Rattle.wf_activities.specs.Laws.{ClosesOne, closed_item, KeepsNumbers, ClosedStaysClosed, CountsOpenItems, HaveSorts, GrowsByStep}
use Rattle.wf_activities.specs.UnitItems.{is_listed}
use Rattle.wf_semantics.specs.Run.{is_at}

next_same : (n m : ℕ) → (n == m) ≡ (suc n == suc m)
next_same n m = go (n == m) refl
  where
    go : (b : Bool) → (n == m) ≡ b → (n == m) ≡ (suc n == suc m)
    go true q = q ∙ sym (eq-eqb (suc n) (suc m) (ap suc (eqb-true n m q)))
    go false q = let no : (suc n == suc m) ≡ false = grind (arith, nat_tests) in q ∙ sym no

close_none : (items : List Item) → close 0 items ≡ items
close_none [] = refl
close_none (x ∷ xs) = refl

closed_at : (items : List Item) (m n : ℕ) → slice_get (close (suc m) items) n ≡ cond (n == m) (option_map closed_item (slice_get items n)) (slice_get items n)
closed_at [] m n = same (n == m)
  where
    same : (b : Bool) → None ≡ cond b (option_map closed_item None) None
    same true = refl
    same false = refl
closed_at (x ∷ xs) zero zero = refl
closed_at (x ∷ xs) zero (suc n) = let no : (suc n == 0) ≡ false = grind (arith, nat_tests) in rw no refl
closed_at (x ∷ xs) (suc m) zero = let no : (0 == suc m) ≡ false = grind (arith, nat_tests) in rw no refl
closed_at (x ∷ xs) (suc m) (suc n) =
    closed_at xs m n ∙ ap (λ (b : Bool). cond b (option_map closed_item (slice_get xs n)) (slice_get xs n)) (next_same n m)

pub closes_one : ClosesOne
closes_one items m zero = same (0 == m)
  where
    same : (b : Bool) → None ≡ cond b (option_map closed_item None) None
    same true = refl
    same false = refl
closes_one items zero (suc n) =
    let no : (suc n == 0) ≡ false = grind (arith, nat_tests) in
    ap (λ (l : List Item). slice_get l n) (close_none items) ∙ ap (λ (b : Bool). cond b (option_map closed_item (slice_get items n)) (slice_get items n)) (sym no)
closes_one items (suc m) (suc n) =
    closed_at items m n ∙ ap (λ (b : Bool). cond b (option_map closed_item (slice_get items n)) (slice_get items n)) (next_same n m)

kept_at : (items more : List Item) (n : ℕ) → suc n ≤ length items → slice_get (items ++ more) n ≡ slice_get items n
kept_at [] more n h = absurd (omega arith)
kept_at (x ∷ xs) more zero h = refl
kept_at (x ∷ xs) more (suc n) h = kept_at xs more n (omega arith)

pub keeps_numbers : KeepsNumbers
keeps_numbers items more zero h = refl
keeps_numbers items more (suc n) h = kept_at items more n h

still : (b : Bool) (o : Option Item) → is_closed o ≡ true → is_closed (cond b (option_map closed_item o) o) ≡ true
still b None h = absurd (true≢false (sym h))
still true (Some x) h = refl
still false (Some x) h = h

started_after : (items more : List Item) (n : ℕ) → is_closed (slice_get items n) ≡ true → is_closed (slice_get (items ++ more) n) ≡ true
started_after [] more n h = absurd (true≢false (sym h))
started_after (x ∷ xs) more zero h = h
started_after (x ∷ xs) more (suc n) h = started_after xs more n h

pub closed_stays_closed : ClosedStaysClosed
closed_stays_closed items more m zero h = absurd (true≢false (sym h))
closed_stays_closed items more m (suc n) h =
    (ap is_closed (closes_one items m (suc n)) ∙ still (suc n == m) (item_at items (suc n)) h, started_after items more n h)

pub counts_open_items : CountsOpenItems
counts_open_items a [] = refl
counts_open_items a (x ∷ xs) = one_more ((x.act.0 == a) && not x.closed) x (open_count a xs) (filter (λ y. (y.act.0 == a) && not y.closed) xs) (counts_open_items a xs)
  where
    one_more : (b : Bool) (y : Item) (n : ℕ) (ys : List Item) → n ≡ length ys → one b + n ≡ length (cond b (y ∷ ys) ys)
    one_more true y n ys e = omega arith
    one_more false y n ys e = omega arith

and_assoc : (p q r : Bool) → (p && (q && r)) ≡ ((p && q) && r)
and_assoc true q r = refl
and_assoc false q r = refl

pub values_wanted : (chart : Chart) (xs : List VarId) (ws : List (VarId × Sort)) (os : List Output) → HaveSorts chart xs ws → are_values chart xs os ≡ are_wanted ws os
values_wanted chart [] [] [] h = refl
values_wanted chart [] [] (o ∷ os) h = refl
values_wanted chart [] (w ∷ ws) os h = absurd h
values_wanted chart (x ∷ xs) [] os h = absurd h
values_wanted chart (x ∷ xs) (w ∷ ws) [] h = refl
values_wanted chart (x ∷ xs) (w ∷ ws) (o ∷ os) h =
    ap₂ (λ (v : ℕ) (s : Option Sort). (o.var.0 == v) && (option_map_or (λ sort. alike sort (val_sort o.val)) s false && are_values chart xs os)) (sym h.0) h.1
    ∙ ap (λ (b : Bool). (o.var.0 == w.0.0) && (alike w.1 (val_sort o.val) && b)) (values_wanted chart xs ws os h.2)
    ∙ and_assoc (o.var.0 == w.0.0) (alike w.1 (val_sort o.val)) (are_wanted ws os)

pub same_starts : (p q : StartAt → Bool) → ((s : StartAt) → p s ≡ q s) → (starts : List StartAt) → filter p starts ≡ filter q starts
same_starts p q h [] = refl
same_starts p q h (s ∷ starts) = ap₂ (λ (b : Bool) (l : List StartAt). cond b (s ∷ l) l) (h s) (same_starts p q h starts)

pub grows_by_step : GrowsByStep
grows_by_step chart u acts starts same =
    ap (λ (l : List StartAt). map (λ (s : StartAt). new_item s.act) l) (same_starts (λ s. is_listed acts s.act.0) (is_at chart u) (λ s. same s.act.0) starts)
