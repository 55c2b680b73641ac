-- Of other calls. Which updates can be spelled.
-- Each field is in its range, each list in its order, and each value is one that its type keeps.
use Rattle.std.specs.Prelude.{ℕ, ◌≡◌, ◌⊎◌, ◌+◌, ◌<◌, ◌≤◌, ◌^◌, List, [], ◌∷◌, length, IsTrue}
use Rattle.std.specs.List.{AllByRecursion}
use Rattle.std.specs.Int.{w64}
use Rattle.std.specs.Int.RustNames.{FitsSigned}
use Rattle.wf_model.specs.Limits.{max_units, max_events, max_vars, max_acts, max_states, max_transitions, max_actions, max_outputs, max_text, max_steps, max_fired, max_starts, max_sealed}
use Rattle.wf_model.specs.Txt.{is_text}
use Rattle.wf_model.specs.declared.value.Val.{Val}
use Rattle.wf_model.specs.declared.value.Val.TheVariants as v
use Rattle.wf_model.specs.declared.outer.Outer.{Outer}
use Rattle.wf_model.specs.declared.outer.Outer.TheVariants.{Happen, Complete}
use Rattle.wf_model.specs.declared.update.Write.{Write}
use Rattle.wf_model.specs.declared.update.StartAt.{StartAt}
use Rattle.wf_model.specs.declared.update.Update.{Update}
use Rattle.wf_codec.specs.declared.field.Numbers.{Numbers}

-- each stands so to the next
abbrev pub InOrder : {A : Type 0} → (A → A → Type 0) → List A → Type 0
InOrder Before [] = Unit {0}
InOrder Before (x ∷ []) = Unit {0}
InOrder Before (x ∷ (y ∷ ys)) = Before x y × InOrder Before (y ∷ ys)

-- the numbers strictly ascend
abbrev pub Ascend : {A : Type 0} → (A → ℕ) → List A → Type 0
Ascend number xs = InOrder (λ x y. number x < number y) xs

-- a start of a later transition, or of the same one at a later place
abbrev pub IsEarlier : StartAt → StartAt → Type 0
IsEarlier a b = (a.trans.0 < b.trans.0) ⊎ ((a.trans.0 ≡ b.trans.0) × (a.place < b.place))

-- a write with its numbers in their ranges
abbrev pub IsWrite : Write → Type 0
IsWrite w = (w.var.0 < max_vars) × (w.trans.0 < max_transitions)

-- a start with its numbers in their ranges
abbrev pub IsStart : StartAt → Type 0
IsStart s = (s.act.0 < max_acts) × (s.trans.0 < max_transitions) × (s.place < max_actions)

-- the numbers of a chart's events, activities and variables are below these
abbrev pub chart_numbers : Numbers
chart_numbers = record { events = max_events; acts = max_acts; vars = max_vars }

-- the numbers that two bytes can spell are below these
abbrev pub any_numbers : Numbers
any_numbers = record { events = 2 ^ 16; acts = 2 ^ 16; vars = 2 ^ 16 }

-- an outer whose event, activity and variables have such numbers; items count from 1
abbrev pub IsOuter : Numbers → Outer → Type 0
IsOuter numbers (Happen e) = e.0 < numbers.events
IsOuter numbers (Complete item act outputs) = (1 ≤ item) × (act.0 < numbers.acts) × (length outputs ≤ max_outputs) × AllByRecursion (λ o. o.var.0 < numbers.vars) outputs

-- each field is in its range, and each list in its order
pub record IsInRange (u : Update) : Type 0 where
  pub from : u.from.0 < max_units
  pub step : (1 ≤ u.step) × (u.step ≤ max_steps + 1)
  pub flips : AllByRecursion (λ s. s.0 < max_states) u.flips
  pub flips_ascend : Ascend (λ s. s.0) u.flips
  pub writes : AllByRecursion IsWrite u.writes
  pub writes_ascend : Ascend (λ w. w.var.0) u.writes
  pub raised : AllByRecursion (λ e. e.0 < max_events) u.raised
  pub raised_ascend : Ascend (λ e. e.0) u.raised
  pub starts : AllByRecursion IsStart u.starts
  pub starts_ascend : InOrder IsEarlier u.starts
  pub starts_few : length u.starts ≤ max_starts
  pub fired : AllByRecursion (λ t. t.0 < max_transitions) u.fired
  pub fired_ascend : Ascend (λ t. t.0) u.fired
  pub fired_few : length u.fired ≤ max_fired
  pub outer : AllByRecursion (IsOuter chart_numbers) u.outer
  pub outer_few : length u.outer ≤ max_sealed

-- What the types keep of each value that a program holds.

-- an integer of 64 bits, or at most 64 text characters
abbrev pub IsHeldValue : Val → Type 0
IsHeldValue (v.Bool b) = Unit {0}
IsHeldValue (v.Int z) = FitsSigned w64 z
IsHeldValue (v.Text cs) = (length cs ≤ max_text) × IsTrue (is_text cs)

-- an item of 32 bits, and outputs with such values
abbrev pub IsHeldOuter : Outer → Type 0
IsHeldOuter (Happen e) = Unit {0}
IsHeldOuter (Complete item act outputs) = (item < 2 ^ 32) × AllByRecursion (λ o. IsHeldValue o.val) outputs

-- writes with such values, and such outers
abbrev pub IsHeld : Update → Type 0
IsHeld u = AllByRecursion (λ w. IsHeldValue w.val) u.writes × AllByRecursion IsHeldOuter u.outer

-- what has a spelling
abbrev pub IsUpdate : Update → Type 0
IsUpdate u = IsInRange u × IsHeld u
