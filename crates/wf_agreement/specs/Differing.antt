-- Of other calls. Where the histories of all units differ first.
use Rattle.std.specs.Prelude.{ℕ, zero, suc, ◌+◌, ◌≡◌, ◌<◌, not, nat_le, max, Bool, false, List, map, flat_map, find, length, Option, Some, None, if◌then◌else◌}
use Rattle.std.specs.Borrow.{Bor}
use Rattle.std.specs.Option.{option_map_or}
use Rattle.std.specs.List.{range_with_len}
use Rattle.wf_model.specs.Ids.{unit_id}
use Rattle.wf_model.specs.declared.chart.Chart.{Chart}
use Rattle.wf_model.specs.declared.update.Update.{Update}
use Rattle.wf_parts.specs.declared.data.PartData.{PartData}
use Rattle.wf_parts.specs.Parts.{part_of}
use Rattle.wf_views.specs.Relevant.{relevant}
use Rattle.wf_histories.specs.Histories.{History, taken, inputs_at, local_update}
use Rattle.wf_steps.specs.Growing.{IsMade}
use Rattle.wf_steps.specs.Room.{Kept}
use Rattle.wf_agreement.specs.Same.{same_update}
use Rattle.wf_agreement.specs.declared.agreement.Agreement.{Agreement}
use Rattle.wf_agreement.specs.declared.agreement.Agreement.TheVariants as agreement

-- what is lent are the units' parts and histories, in unit order
pub record AreOf (parts : List (Bor PartData)) (histories : List (Bor Kept)) (part : ℕ → PartData) (h : ℕ → History) : Type 0 where
  pub parts_are : map (λ lent. lent.now) parts ≡ map part (range_with_len 0 (length parts))
  pub pasts_are : map (λ lent. lent.now.past) histories ≡ map h (range_with_len 0 (length parts))

-- they are the parts of all units of a chart, each with a history that records made
pub record AreMade (parts : List (Bor PartData)) (histories : List (Bor Kept)) : Type 0 where
  pub chart : Chart
  pub units : length parts ≡ length chart.units
  pub past : ℕ → History
  pub of : AreOf parts histories (part_of chart) past
  pub made : (u : ℕ) → u < length parts → IsMade (part_of chart u) (past u)

-- an update that a Turn of the reader took in; it tells its step and its sender
pub record Input : Type 0 where
  pub reader : ℕ
  pub update : Update

abbrev pub read_by : ℕ → Update → Input
read_by u update = record { reader = u; update = update }

-- what a unit's Turn to step j + 1 took in, in the order of the senders; and what those of n units did, in the order of the readers

abbrev pub inputs_of : (ℕ → History) → ℕ → ℕ → List Input
inputs_of h j u = map (read_by u) (inputs_at (h u) j)

abbrev pub inputs_in : ℕ → (ℕ → History) → ℕ → List Input
inputs_in n h j = flat_map (inputs_of h j) (range_with_len 0 n)

-- the most steps that one of n units took
abbrev pub most_taken : ℕ → (ℕ → History) → ℕ
most_taken zero h = 0
most_taken (suc n) h = max (most_taken n h) (taken (h n))

-- ALL INPUTS in order of step, then reader, then sender
abbrev pub inputs : ℕ → (ℕ → History) → List Input
inputs n h = flat_map (inputs_in n h) (range_with_len 0 (most_taken n h))

-- what unit v sends unit u of a step, if it has come so far
abbrev pub sent_to : (ℕ → PartData) → (ℕ → History) → ℕ → ℕ → ℕ → Option Update
sent_to part h u v step = if nat_le step (taken (h v) + 1) then Some (relevant (part v).peers (local_update (part v) (h v) step) u) else None

-- what the sender of this input sends for it
unfoldable pub sent : (ℕ → PartData) → (ℕ → History) → Input → Option Update
sent part h input = sent_to part h input.reader input.update.from.0 input.update.step

-- it is what was sent
abbrev pub is_sent : (ℕ → PartData) → (ℕ → History) → Input → Bool
is_sent part h input = option_map_or (same_update input.update) (sent part h input) false

-- the first of these inputs that isn't
abbrev pub first_of : (ℕ → PartData) → (ℕ → History) → List Input → Option Input
first_of part h inputs = find (λ input. not (is_sent part h input)) inputs

-- THE FIRST DIFFERENCE of n units, if there is one
unfoldable pub first_difference : ℕ → (ℕ → PartData) → (ℕ → History) → Option Input
first_difference n part h = first_of part h (inputs n h)

-- the answer for it: where it is, the input, and what its sender sends in its place
abbrev pub told : (ℕ → PartData) → (ℕ → History) → Option Input → Agreement
told part h None = agreement.Agree
told part h (Some input) = agreement.Differ (unit_id input.reader) input.update.step input.update.from input.update (sent part h input)
