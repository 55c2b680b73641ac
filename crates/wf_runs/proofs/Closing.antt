-- Which items a step closes.
use Rattle.std.proofs.Common.{◌≡◌, ℕ, zero, suc, ◌==◌, ◌&&◌, ◌||◌, ◌++◌, cond, Bool, true, false, List, [], ◌∷◌, Option, Some, None, map, filter, refl, sym, ◌∙◌, ap, ap₂, eqb-true, eq-eqb}
use Rattle.std.specs.Prelude.{flat_map}
use Rattle.std.specs.List.{slice_get, list_any}
use Rattle.std.specs.Option.{option_map, is_some}
use Rattle.wf_model.specs.declared.chart.Chart.{Chart}
use Rattle.wf_model.specs.declared.outer.Outer.{Outer}
use Rattle.wf_model.specs.declared.outer.Outer.TheVariants.{Happen, Complete}
use Rattle.wf_model.specs.declared.outer.Entry.{Entry}
use Rattle.wf_model.specs.declared.update.StartAt.{StartAt}
use Rattle.wf_semantics.specs.Effects.{starts_of}
use Rattle.wf_semantics.specs.Items.{Item, Completion, new_item, item_at, close, close_all}
use Rattle.wf_semantics.specs.Run.{CentralState, next_state, after_steps, fired_in, is_at, items_closed, completions_of, completions_at}
use Rattle.wf_semantics.specs.Admission.{is_closed, completes, is_pending}
use Rattle.wf_model.proofs.Bools.{or_left}
use Rattle.wf_activities.specs.Laws.{closed_item}
use Rattle.wf_activities.proofs.LawsHold.{closes_one}

same_number : (m n : ℕ) → (n == m) ≡ (m == n)
same_number m n = go (n == m) refl (m == n) refl
  where
    go : (a : Bool) → (n == m) ≡ a → (b : Bool) → (m == n) ≡ b → a ≡ b
    go true p true q = refl
    go false p false q = refl
    go true p false q = sym (eq-eqb m n (sym (eqb-true n m p))) ∙ q
    go false p true q = sym p ∙ eq-eqb n m (sym (eqb-true m n q))

-- closing one item
closed_by_one : (items : List Item) (m n : ℕ) → is_closed (item_at (close m items) n) ≡ (is_closed (item_at items n) || (is_some (item_at items n) && (m == n)))
closed_by_one items m n = ap is_closed (closes_one items m n) ∙ go (n == m) (same_number m n) (item_at items n)
  where
    go : (b : Bool) → b ≡ (m == n) → (o : Option Item) → is_closed (cond b (option_map closed_item o) o) ≡ (is_closed o || (is_some o && (m == n)))
    go true e None = refl
    go false e None = refl
    go true e (Some x) = with_bit x.closed (m == n) e
      where
        with_bit : (c d : Bool) → true ≡ d → true ≡ (c || d)
        with_bit true d q = refl
        with_bit false d q = q
    go false e (Some x) = with_bit x.closed (m == n) e
      where
        with_bit : (c d : Bool) → false ≡ d → c ≡ (c || d)
        with_bit true d q = refl
        with_bit false d q = q

there_still : (items : List Item) (m n : ℕ) → is_some (item_at (close m items) n) ≡ is_some (item_at items n)
there_still items m n = ap is_some (closes_one items m n) ∙ go (n == m) (item_at items n)
  where
    go : (b : Bool) (o : Option Item) → is_some (cond b (option_map closed_item o) o) ≡ is_some o
    go true None = refl
    go true (Some x) = refl
    go false o = refl

-- closing several
pub closed_by_all : (cs : List Completion) (items : List Item) (n : ℕ) →
    is_closed (item_at (close_all cs items) n) ≡ (is_closed (item_at items n) || (is_some (item_at items n) && list_any (λ c. c.item == n) cs))
closed_by_all [] items n = none (is_closed (item_at items n)) (is_some (item_at items n))
  where
    none : (b s : Bool) → b ≡ (b || (s && false))
    none true s = refl
    none false true = refl
    none false false = refl
closed_by_all (c ∷ cs) items n =
    closed_by_all cs (close c.item items) n
    ∙ ap₂ (λ (b s : Bool). b || (s && list_any (λ d. d.item == n) cs)) (closed_by_one items c.item n) (there_still items c.item n)
    ∙ one_more (is_closed (item_at items n)) (is_some (item_at items n)) (c.item == n) (list_any (λ d. d.item == n) cs)
  where
    one_more : (b s p q : Bool) → ((b || (s && p)) || (s && q)) ≡ (b || (s && (p || q)))
    one_more true s p q = refl
    one_more false true true q = refl
    one_more false true false q = refl
    one_more false false p q = refl

-- the completions that come to a unit are those of its entries
pub completions_pending : (u n : ℕ) (entries : List Entry) → list_any (λ c. c.item == n) (completions_at u entries) ≡ is_pending entries u n
completions_pending u n [] = refl
completions_pending u n (x ∷ xs) = go (x.unit.0 == u) x.outer (completions_pending u n xs)
  where
    go : (b : Bool) (outer : Outer) → list_any (λ c. c.item == n) (completions_at u xs) ≡ is_pending xs u n →
        list_any (λ c. c.item == n) (flat_map (λ y. completions_of y.outer) (cond b (record x { outer = outer } ∷ filter (λ y. y.unit.0 == u) xs) (filter (λ y. y.unit.0 == u) xs)))
        ≡ ((b && completes n outer) || is_pending xs u n)
    go false outer ih = ih
    go true (Happen e) ih = ih
    go true (Complete item a outputs) ih = ap (λ (b : Bool). (item == n) || b) ih

none_closed : (starts : List StartAt) (n : ℕ) → is_closed (slice_get (map (λ s. new_item s.act) starts) n) ≡ false
none_closed [] n = refl
none_closed (s ∷ starts) zero = refl
none_closed (s ∷ starts) (suc n) = none_closed starts n

open_when_new : (items : List Item) (starts : List StartAt) (n : ℕ) → is_closed (slice_get (items ++ map (λ s. new_item s.act) starts) n) ≡ is_closed (slice_get items n)
open_when_new [] starts n = none_closed starts n
open_when_new (x ∷ items) starts zero = refl
open_when_new (x ∷ items) starts (suc n) = open_when_new items starts n

-- what a step starts is not closed
pub new_is_open : (items : List Item) (starts : List StartAt) (n : ℕ) → is_closed (item_at (items ++ map (λ s. new_item s.act) starts) n) ≡ is_closed (item_at items n)
new_is_open items starts zero = refl
new_is_open items starts (suc n) = open_when_new items starts n

module _ (chart : Chart) where
  -- where these entries came, an item is closed that was closed, or that is there and that an entry completes
  pub closed_now : (c : CentralState) (entries : List Entry) (u n : ℕ) →
      is_closed (item_at (items_closed c.items entries u) n) ≡ (is_closed (item_at (c.items u) n) || (is_some (item_at (c.items u) n) && is_pending entries u n))
  closed_now c entries u n =
      closed_by_all (completions_at u entries) (c.items u) n
      ∙ ap (λ (b : Bool). is_closed (item_at (c.items u) n) || (is_some (item_at (c.items u) n) && b)) (completions_pending u n entries)

  pub closed_next : (c : CentralState) (entries : List Entry) (u n : ℕ) → is_closed (item_at ((next_state chart c entries).items u) n) ≡ is_closed (item_at (items_closed c.items entries u) n)
  unfolding next_state
  closed_next c entries u n = new_is_open (items_closed c.items entries u) (filter (is_at chart u) (starts_of chart (fired_in chart c entries))) n

  pub closed_for_good : (c : CentralState) (steps : List (List Entry)) (u n : ℕ) → is_closed (item_at (c.items u) n) ≡ true → is_closed (item_at ((after_steps chart c steps).items u) n) ≡ true
  closed_for_good c [] u n h = h
  closed_for_good c (entries ∷ steps) u n h =
      closed_for_good (next_state chart c entries) steps u n
      (closed_next c entries u n ∙ closed_now c entries u n ∙ or_left (is_closed (item_at (c.items u) n)) (is_some (item_at (c.items u) n) && is_pending entries u n) h)
