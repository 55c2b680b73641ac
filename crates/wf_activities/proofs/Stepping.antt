-- A step's effect on the items of all units.
use Rattle.std.proofs.Common.{◌≡◌, ℕ, zero, suc, List, [], ◌∷◌, ◌++◌, length, map, take, get_or, refl, sym, ◌∙◌, ap, arith, append-nil}
use Rattle.std.specs.Prelude.{Vec}
use Rattle.std.specs.Vec.{with_items}
use Rattle.std.proofs.lemmas.List.{drop_all, take_all, length-map}
use Rattle.wf_model.specs.declared.outer.Entry.{Entry}
use Rattle.wf_semantics.specs.Items.{Item, Completion, close, close_all}
use Rattle.wf_semantics.specs.Run.{completions_at}
use Rattle.wf_activities.specs.UnitItems.{UnitItems}
use Rattle.wf_activities.specs.Stock.{Stock, items_at, items_in, room_in}

-- the items as they are kept are those that are seen
pub same_items : (units : List UnitItems) (stock : Stock) → map (λ i. i.items) units ≡ stock.items → items_in units ≡ items_at stock
same_items units stock e = λ k u. (ap (λ (l : List (List Item)). get_or l u []) e) k

-- a list whose items were written anew
pub refilled : {X Z : Type 0} (v : Vec X Z) (ws : List X) → length ws ≡ length v.items → (with_items v ws).items ≡ ws
refilled {X} v ws e =
    ap (λ (rest : List X). take v.len (ws ++ rest)) (drop_all (length ws) v.items (omega arith))
    ∙ ap (take v.len) (append-nil ws)
    ∙ take_all v.len ws (omega (arith, v.ok.0))

length_close : (n : ℕ) (items : List Item) → length (close n items) ≡ length items
length_close n [] = refl
length_close zero (x ∷ xs) = refl
length_close (suc zero) (x ∷ xs) = refl
length_close (suc (suc n)) (x ∷ xs) = ap suc (length_close (suc n) xs)

-- closing items adds none
pub length_close_all : (cs : List Completion) (items : List Item) → length (close_all cs items) ≡ length items
length_close_all [] items = refl
length_close_all (c ∷ cs) items = length_close_all cs (close c.item items) ∙ length_close c.item items

-- units with the same rooms
pub rooms_stay : (xs ys : List UnitItems) (u : ℕ) → map (λ i. i.room) xs ≡ map (λ i. i.room) ys → room_in xs u ≡ room_in ys u
rooms_stay xs ys u e = ap (λ (l : List ℕ). get_or l u 0) e

-- the units' items as they go through the step: room is made, then items are closed
module _ {Z : Type 0} (v : Vec UnitItems Z) (stock : Stock) (seen : map (λ i. i.items) v.items ≡ stock.items)
    (first reserved : List UnitItems) (lent : first ≡ v.items) (long : length reserved ≡ length first) (same : map (λ i. i.items) reserved ≡ map (λ i. i.items) first)
    (second : List UnitItems) (lent_again : second ≡ (with_items v reserved).items) where
  pub reserved_is : second ≡ reserved
  reserved_is = lent_again ∙ refilled v reserved (long ∙ ap length lent)

  pub reserved_items : items_in second ≡ items_at stock
  reserved_items = same_items second stock (ap (map (λ (i : UnitItems). i.items)) reserved_is ∙ same ∙ ap (map (λ (i : UnitItems). i.items)) lent ∙ seen)

  module _ (entries : List Entry) (closed : List UnitItems) (long_still : length closed ≡ length second) (closes : (u : ℕ) → items_in closed u ≡ close_all (completions_at u entries) (items_in second u))
      (third : List UnitItems) (lent_last : third ≡ (with_items (with_items v reserved) closed).items) where
    pub closed_is : third ≡ closed
    closed_is = lent_last ∙ refilled (with_items v reserved) closed (long_still ∙ ap length lent_again)

    pub closed_items : (u : ℕ) → items_in third u ≡ close_all (completions_at u entries) (items_at stock u)
    closed_items u = ap (λ (l : List UnitItems). items_in l u) closed_is ∙ closes u ∙ ap (λ (f : ℕ → List Item). close_all (completions_at u entries) (f u)) reserved_items

    pub closed_steps : map (λ i. i.steps) v.items ≡ stock.steps → map (λ i. i.steps) reserved ≡ map (λ i. i.steps) first → map (λ i. i.steps) closed ≡ map (λ i. i.steps) second → map (λ i. i.steps) third ≡ stock.steps
    closed_steps kept made stay =
        ap (map (λ (i : UnitItems). i.steps)) closed_is ∙ stay ∙ ap (map (λ (i : UnitItems). i.steps)) reserved_is ∙ made ∙ ap (map (λ (i : UnitItems). i.steps)) lent ∙ kept

    pub closed_length : length third ≡ length stock.items
    closed_length = ap length closed_is ∙ long_still ∙ ap length reserved_is ∙ long ∙ ap length lent ∙ sym (length-map v.items (λ (i : UnitItems). i.items)) ∙ ap length seen
