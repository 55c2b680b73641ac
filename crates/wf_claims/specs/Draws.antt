-- Inner. The rule of the claim word.
use Rattle.std.specs.Prelude.{◌≡◌, ℕ, ◌+◌, ◌-◌, ◌*◌, ◌≤◌, List, [], ◌∷◌, ◌++◌, length, slice_index}
use mathlib.Core.Option.{some}
use lib.ListN.{get_elem?}
use Rattle.atomic_table.specs.Table.{State, Me, Step}
use Rattle.wf_claims.specs.Counts.{total, times, once_below}
use Rattle.wf_claims.specs.declared.rule.Hand.{Hand}
use Rattle.wf_claims.specs.declared.rule.Sizes.{Sizes}

abbrev pub hand : ℕ → ℕ → ℕ → List ℕ → Hand
hand limit parts left drawn = record { limit = limit; parts = parts; left = left; drawn = drawn }

abbrev pub first_hand : Sizes → Hand
first_hand k = hand k.n k.seats (k.seats * (k.n + 1)) []

-- a view with no part has drawn nothing
abbrev pub IdleIsEmpty : List Hand → Type 0
IdleIsEmpty views = (id : ℕ) (v : Hand) → get_elem? views id ≡ some v → v.parts ≡ 0 → v.drawn ≡ []

-- the views have all parts, the numbers below the word are drawn, each once, and no draw is left over
pub record IsKept (seats most word : ℕ) (views : List Hand) : Type 0 where
  pub parts : total (λ (v : Hand). v.parts) views ≡ seats
  pub drawn : (x : ℕ) → total (λ (v : Hand). times x v.drawn) views ≡ once_below x word
  pub idle : IdleIsEmpty views
  pub left : word + total (λ (v : Hand). v.left) views ≡ most

abbrev pub AreDrawn : {S : Type 0} → Sizes → State S Hand → Type 0
AreDrawn k s = (length s.words ≡ 1) × IsKept k.seats (k.seats * (k.n + 1)) (slice_index s.words 0) s.views

-- the seat has drawn the number found, and no number twice
abbrev pub HasDrawn : {S : Type 0} → Step S → Me S Hand → ℕ → Me S Hand → Type 0
HasDrawn step me found after =
    (after ≡ (hand me.0.limit me.0.parts (me.0.left - 1) (me.0.drawn ++ found ∷ []), me.1))
    × ((x : ℕ) → times x (me.0.drawn ++ found ∷ []) ≤ 1)

abbrev pub IsNobody : {S : Type 0} → Step S → Me S Hand → ℕ → Me S Hand → Type 0
IsNobody step me found after = after ≡ (hand 0 0 0 [], [])

abbrev pub left_of : Hand → Hand
left_of v = hand v.limit (v.parts - 1) (v.left - (v.limit + 1)) v.drawn

abbrev pub right_of : Hand → Hand
right_of v = hand v.limit 1 (v.limit + 1) []

abbrev pub joined : Hand → Hand → Hand
joined v w = hand v.limit (v.parts + w.parts) (v.left + w.left) (v.drawn ++ w.drawn)

-- a seat with the parts and the allowances of seats to come
abbrev pub IsBank : {S : Type 0} → ℕ → Me S Hand → Type 0
IsBank n me = (me.1 ≡ []) × (me.0.limit ≡ n) × (me.0.left ≡ me.0.parts * (n + 1)) × (me.0.drawn ≡ [])

abbrev pub EmptyIfIdle : Hand → Type 0
EmptyIfIdle v = v.parts ≡ 0 → v.drawn ≡ []
