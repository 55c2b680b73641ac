-- Items: the starts of activities. A unit's items count from 1 in the order of their starts.
use Rattle.std.specs.Prelude.{ℕ, zero, suc, ◌+◌, ◌==◌, ◌&&◌, not, Bool, true, false, List, [], ◌∷◌, Option, None, slice_get}
use Rattle.wf_model.specs.declared.ids.ActId.{ActId}

pub record Item : Type 0 where
  pub act : ActId
  pub closed : Bool

-- the completion of an item, by its number
pub record Completion : Type 0 where
  pub item : ℕ
  pub act : ActId

abbrev pub new_item : ActId → Item
new_item a = record { act = a; closed = false }

-- the item with this number
abbrev pub item_at : List Item → ℕ → Option Item
item_at items zero = None
item_at items (suc n) = slice_get items n

abbrev pub one : Bool → ℕ
one true = 1
one false = 0

-- how many items of activity a are open
abbrev pub open_count : ℕ → List Item → ℕ
open_count a [] = 0
open_count a (x ∷ xs) = one ((x.act.0 == a) && not x.closed) + open_count a xs

-- the items with item n closed
abbrev pub close : ℕ → List Item → List Item
close n [] = []
close zero items = items
close (suc zero) (x ∷ xs) = record x { closed = true } ∷ xs
close (suc (suc n)) (x ∷ xs) = x ∷ close (suc n) xs

abbrev pub close_all : List Completion → List Item → List Item
close_all [] items = items
close_all (c ∷ cs) items = close_all cs (close c.item items)

-- how many of these complete an item of activity a
abbrev pub done_count : ℕ → List Completion → ℕ
done_count a [] = 0
done_count a (c ∷ cs) = one (c.act.0 == a) + done_count a cs
