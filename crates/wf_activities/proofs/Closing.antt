-- Items that are closed one after another.
use Rattle.std.proofs.Common.{◌≡◌, ℕ, zero, suc, ◌+◌, ◌<◌, ◌==◌, cond, Bool, true, false, List, [], ◌∷◌, ◌++◌, length, map, drop, get_or, set, inl, inr, refl, sym, ◌∙◌, ap, ap₂, subst, arith, eq-eqb, eqb-true, true≢false, get_or-set_other, drop-cons, add-one}
use Rattle.std.proofs.lemmas.List.{length-map, get_or-map, get_or_past, map-set}
use Rattle.std.proofs.lemmas.Grind.{get_or-set_at}
use Rattle.wf_model.specs.declared.ids.ActId.{ActId}
use Rattle.wf_model.specs.declared.outer.Output.{Output}
use Rattle.wf_model.specs.declared.outer.Outer.{Outer}
use Rattle.wf_model.specs.declared.outer.Outer.TheVariants.{Complete}
use Rattle.wf_model.specs.declared.outer.Entry.{Entry}
use Rattle.wf_semantics.specs.Items.{Item, Completion, item_at, close, close_all}
use Rattle.wf_semantics.specs.Run.{completions_of, completions_at}
use Rattle.wf_semantics.proofs.Children.{lt_or_ge}
use Rattle.wf_activities.specs.UnitItems.{UnitItems, is_open}
use Rattle.wf_activities.specs.Stock.{items_in}
use Rattle.wf_activities.specs.Completed.{InTurn, CompleteInTurn}
use Rattle.wf_activities.proofs.Done.{at_one, completions_append}

pub close_all_append : (cs ds : List Completion) (items : List Item) → close_all (cs ++ ds) items ≡ close_all ds (close_all cs items)
close_all_append [] ds items = refl
close_all_append (c ∷ cs) ds items = close_all_append cs ds (close c.item items)

pub in_turn_parts : (cs ds : List Completion) (items : List Item) → InTurn (cs ++ ds) items → InTurn cs items × InTurn ds (close_all cs items)
in_turn_parts [] ds items h = (tt, h)
in_turn_parts (c ∷ cs) ds items h = let r = in_turn_parts cs ds (close c.item items) h.2 in ((h.0, h.1, r.0), r.1)

-- an entry that completes an item, at its unit
completes_one : (x : Entry) (n : ℕ) (a : ActId) (outputs : List Output) (v : ℕ) → x.outer ≡ Complete n a outputs → completions_at v (x ∷ []) ≡ cond (x.unit.0 == v) (record { item = n; act = a } ∷ []) []
completes_one x n a outputs v e = at_one x v ∙ ap (λ (o : Outer). cond (x.unit.0 == v) (completions_of o) []) e

pub head_open : (x : Entry) (n : ℕ) (a : ActId) (outputs : List Output) (items : List Item) → x.outer ≡ Complete n a outputs → InTurn (completions_at x.unit.0 (x ∷ [])) items → is_open (item_at items n) ≡ true
head_open x n a outputs items e h =
    let c : Completion = record { item = n; act = a } in
    let own : completions_at x.unit.0 (x ∷ []) ≡ c ∷ [] = completes_one x n a outputs x.unit.0 e ∙ ap (λ (b : Bool). cond b (c ∷ []) []) (eq-eqb x.unit.0 x.unit.0 refl) in
    (subst (λ (cs : List Completion). InTurn cs items) own h).0

no_item : (n : ℕ) → is_open (item_at [] n) ≡ true → ⊥
no_item zero h = true≢false (sym h)
no_item (suc n) h = true≢false (sym h)

-- where there is an open item there is a unit
pub unit_within : (units : List UnitItems) (u n : ℕ) → is_open (item_at (items_in units u) n) ≡ true → u < length units
unit_within units u n h = elim (lt_or_ge u (length units)) [
  | inl l ↦ l
  | inr g ↦ absurd (no_item n (ap (λ (l : List Item). is_open (item_at l n)) (sym (get_or_past (map (λ (i : UnitItems). i.items) units) u [] (omega (arith, length-map units (λ (i : UnitItems). i.items))))) ∙ h))
]

pub items_read : (units : List UnitItems) (u : ℕ) (d : UnitItems) → u < length units → items_in units u ≡ (get_or units u d).items
items_read units u d lt = get_or-map (λ (i : UnitItems). i.items) units u d [] lt

-- a part of what the units keep, where one unit has changed
pub part_set : {X : Type 0} (part : UnitItems → X) (z : X) (units : List UnitItems) (k : ℕ) (y : UnitItems) (v : ℕ) → k < length units → get_or (map part (set units k y)) v z ≡ cond (k == v) (part y) (get_or (map part units) v z)
part_set {X} part z units k y v lt = ap (λ (l : List X). get_or l v z) (map-set part units k y) ∙ go (k == v) refl
  where
    go : (p : Bool) → (k == v) ≡ p → get_or (set (map part units) k (part y)) v z ≡ cond p (part y) (get_or (map part units) v z)
    go true q = get_or-set_at (map part units) k v (part y) z (sym (eqb-true k v q)) (omega (arith, length-map units part))
    go false q = get_or-set_other (map part units) k v (part y) z (λ r. true≢false (sym (eq-eqb k v (sym r)) ∙ q))

-- one entry's item is closed at its unit, and no other
pub closed_one : (units : List UnitItems) (x : Entry) (n : ℕ) (a : ActId) (outputs : List Output) (y d : UnitItems) → x.outer ≡ Complete n a outputs → x.unit.0 < length units
    → y.items ≡ close n (get_or units x.unit.0 d).items → (v : ℕ) → items_in (set units x.unit.0 y) v ≡ close_all (completions_at v (x ∷ [])) (items_in units v)
closed_one units x n a outputs y d e lt new v =
    part_set (λ (i : UnitItems). i.items) [] units x.unit.0 y v lt ∙ go (x.unit.0 == v) refl ∙ ap (λ (cs : List Completion). close_all cs (items_in units v)) (sym (completes_one x n a outputs v e))
  where
    go : (p : Bool) → (x.unit.0 == v) ≡ p → cond p y.items (items_in units v) ≡ close_all (cond p (record { item = n; act = a } ∷ []) []) (items_in units v)
    go true q = new ∙ ap (close n) (sym (items_read units x.unit.0 d lt) ∙ ap (items_in units) (eqb-true x.unit.0 v q))
    go false q = refl

module _ (entries : List Entry) (i : ℕ) (x : Entry) (lt : i < length entries) (is : x ≡ get_or entries i x) where
  next : drop i entries ≡ x ∷ drop (i + 1) entries
  next = drop-cons entries i x lt ∙ ap₂ (λ (y : Entry) (j : ℕ). y ∷ drop j entries) (sym is) (sym (add-one i))

  parted : (u : ℕ) → completions_at u (drop i entries) ≡ completions_at u (x ∷ []) ++ completions_at u (drop (i + 1) entries)
  parted u = ap (completions_at u) next ∙ completions_append u (x ∷ []) (drop (i + 1) entries)

  pub first_in_turn : (units : List UnitItems) → CompleteInTurn (items_in units) (drop i entries) → CompleteInTurn (items_in units) (x ∷ [])
  first_in_turn units h u =
      (in_turn_parts (completions_at u (x ∷ [])) (completions_at u (drop (i + 1) entries)) (items_in units u) (subst (λ (cs : List Completion). InTurn cs (items_in units u)) (parted u) (h u))).0

  module _ (units after : List UnitItems) (closed : (u : ℕ) → items_in after u ≡ close_all (completions_at u (x ∷ [])) (items_in units u)) where
    pub rest_in_turn : CompleteInTurn (items_in units) (drop i entries) → CompleteInTurn (items_in after) (drop (i + 1) entries)
    rest_in_turn h u =
        subst (λ (items : List Item). InTurn (completions_at u (drop (i + 1) entries)) items) (sym (closed u))
        (in_turn_parts (completions_at u (x ∷ [])) (completions_at u (drop (i + 1) entries)) (items_in units u) (subst (λ (cs : List Completion). InTurn cs (items_in units u)) (parted u) (h u))).1

    pub rest_closed : (total : ℕ → List Item) → ((u : ℕ) → close_all (completions_at u (drop i entries)) (items_in units u) ≡ total u)
        → (u : ℕ) → close_all (completions_at u (drop (i + 1) entries)) (items_in after u) ≡ total u
    rest_closed total before u =
        ap (close_all (completions_at u (drop (i + 1) entries))) (closed u)
        ∙ sym (close_all_append (completions_at u (x ∷ [])) (completions_at u (drop (i + 1) entries)) (items_in units u))
        ∙ ap (λ (cs : List Completion). close_all cs (items_in units u)) (sym (parted u))
        ∙ before u
