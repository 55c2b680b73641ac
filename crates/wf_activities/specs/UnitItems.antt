-- The items of one unit, and how they are kept.
use Rattle.std.specs.Prelude.{◌≡◌, ℕ, ◌+◌, ◌==◌, not, nat_le, min, Bool, false, List, [], ◌∷◌, Option, Some, None, length, map, filter, slice_index, if◌then◌else◌}
use Rattle.std.specs.List.{list_any, zip}
use Rattle.wf_model.specs.declared.ids.ActId.{ActId}
use Rattle.wf_model.specs.declared.ids.UnitId.{UnitId}
use Rattle.wf_model.specs.declared.update.StartAt.{StartAt}
use Rattle.wf_model.specs.Limits.{max_acts}
use Rattle.wf_semantics.specs.Items.{Item, one, open_count}

pub record UnitItems : Type 0 where
  pub unit : UnitId
  -- by number, from 1
  pub items : List Item
  -- the step of each item's start
  pub steps : List ℕ
  -- how many items more take no memory
  pub room : ℕ

-- the activity and the step of each item
abbrev pub started_of : UnitItems → List (ActId × ℕ)
started_of kept = zip (map (λ x. x.act) kept.items) kept.steps

-- there is an item, and it is open
abbrev pub is_open : Option Item → Bool
is_open None = false
is_open (Some item) = not item.closed

-- activity a is one of these
abbrev pub is_listed : List ActId → ℕ → Bool
is_listed acts a = list_any (λ x. x.0 == a) acts

-- the starts of these activities
abbrev pub listed : List ActId → List StartAt → List StartAt
listed acts starts = filter (λ s. is_listed acts s.act.0) starts

-- starts, each with the step
abbrev pub at_step : ℕ → List StartAt → List (ActId × ℕ)
at_step step starts = map (λ s. (s.act, step)) starts

-- HOW ITEMS ARE KEPT

-- how many items more take no memory, where the counts reach so far and the two lists have so much room behind their ends
abbrev pub room_of : ℕ → ℕ → ℕ → ℕ
room_of reach started closed = if nat_le max_acts reach then min started closed else 0

-- items, from what was started and which of it is closed
abbrev pub items_from : List (ActId × ℕ) → List Bool → List Item
items_from [] bits = []
items_from (s ∷ ss) [] = []
items_from (s ∷ ss) (b ∷ bits) = record { act = s.0; closed = b } ∷ items_from ss bits

-- how many of these start activity a
abbrev pub starts_count : ℕ → List (ActId × ℕ) → ℕ
starts_count a [] = 0
starts_count a (s ∷ ss) = one (s.0.0 == a) + starts_count a ss

-- there is a bit for each start, and a count of open items for each activity
pub record AreKept (started : List (ActId × ℕ)) (closed : List Bool) (counts : List ℕ) : Type 0 where
  pub bits : length closed ≡ length started
  pub counted : (a : ℕ) → slice_index counts a ≡ open_count a (items_from started closed)
