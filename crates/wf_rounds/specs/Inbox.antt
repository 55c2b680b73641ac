-- Of the laws. The updates of one peer as they come in, by their steps alone.
-- A node keeps those of its next two steps.
use Rattle.std.specs.Prelude.{◌≡◌, ◌⊎◌, ℕ, ◌+◌, ◌<◌, ◌≤◌, Bool, true, false, List, [], ◌∷◌}

-- how many steps the node took, and whether it holds the peer's updates of the next step and of the one after it
pub record Inbox : Type 0 where
  pub taken : ℕ
  pub one : Bool
  pub two : Bool

-- what it makes of an update: it is of a step that was taken, too far ahead, of a step whose update is there, or taken in
pub data Answer : Type 0 where
  old_one : Answer
  too_far : Answer
  is_there : Answer
  fresh : Answer

abbrev pub Says : Inbox → ℕ → Answer → Inbox → Type 0
Says s step old_one new = (step ≤ s.taken) × (new ≡ s)
Says s step too_far new = (s.taken + 2 < step) × (new ≡ s)
Says s step is_there new = (((step ≡ s.taken + 1) × (s.one ≡ true)) ⊎ ((step ≡ s.taken + 2) × (s.two ≡ true))) × (new ≡ s)
Says s step fresh new =
    ((step ≡ s.taken + 1) × (s.one ≡ false) × (new ≡ record { taken = s.taken; one = true; two = s.two }))
    ⊎ ((step ≡ s.taken + 2) × (s.two ≡ false) × (new ≡ record { taken = s.taken; one = s.one; two = true }))

abbrev pub after_step : Inbox → Inbox
after_step s = record { taken = s.taken + 1; one = s.two; two = false }

-- what happens to it: the peer's next update is popped, or a step is taken
pub data Event : Type 0 where
  comes : Event
  takes : Event

-- A run, where the peer's updates are those of one step after the other from `next` on. An update is popped only where that
-- of the second next step isn't there, and a step is taken only where that of the next one is.
abbrev pub Runs : Inbox → ℕ → List Event → List Answer → Type 0
Runs s next [] [] = Unit {0}
Runs s next [] (a ∷ more) = ⊥
Runs s next (comes ∷ events) [] = ⊥
Runs s next (comes ∷ events) (a ∷ more) = (s.two ≡ false) × ((new : Inbox) × Says s next a new × Runs new (next + 1) events more)
Runs s next (takes ∷ events) [] = (s.one ≡ true) × Runs (after_step s) next events []
Runs s next (takes ∷ events) (a ∷ more) = (s.one ≡ true) × Runs (after_step s) next events (a ∷ more)

-- old ones and fresh ones alone
abbrev pub AllGood : List Answer → Type 0
AllGood [] = Unit {0}
AllGood (old_one ∷ more) = AllGood more
AllGood (fresh ∷ more) = AllGood more
AllGood (too_far ∷ more) = ⊥
AllGood (is_there ∷ more) = ⊥

-- before the first one, of a peer that isn't ahead
abbrev pub IsEmpty : ℕ → Inbox → Type 0
IsEmpty next s = (s.one ≡ false) × (s.two ≡ false) × (next ≤ s.taken + 1)

-- A peer's updates, popped so, are never too far ahead and never there already.
abbrev pub RowsComeIn : Type 0
RowsComeIn = (s : Inbox) (next : ℕ) (events : List Event) (said : List Answer) → IsEmpty next s → Runs s next events said → AllGood said
