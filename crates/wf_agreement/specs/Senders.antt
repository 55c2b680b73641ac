-- Inner. What is at hand of all units when their inputs are compared.
use Rattle.std.specs.Prelude.{ℕ, ◌+◌, ◌≡◌, ◌<◌, ◌≤◌, List, map}
use Rattle.std.specs.Borrow.{Bor}
use Rattle.std.specs.List.{range_with_len}
use Rattle.wf_model.specs.declared.update.Update.{Update}
use Rattle.wf_parts.specs.declared.data.PartData.{PartData}
use Rattle.wf_histories.specs.Histories.{History, taken}
use Rattle.wf_agreement.specs.Own.{updates_to}

-- an update is from one of n units, and of a step
abbrev pub HasSender : ℕ → Update → Type 0
HasSender n update = (update.from.0 < n) × (1 ≤ update.step)

-- the own updates of n units, that of the next step last
abbrev pub all_updates : ℕ → (ℕ → PartData) → (ℕ → History) → List (List Update)
all_updates n part h = map (λ u. updates_to (part u) (h u) (taken (h u) + 1)) (range_with_len 0 n)

-- these are the parts of n units, lent, and their own updates
pub record AreSenders (n : ℕ) (parts : List (Bor PartData)) (units : List (List Update)) (part : ℕ → PartData) (h : ℕ → History) : Type 0 where
  pub parts_are : map (λ lent. lent.now) parts ≡ map part (range_with_len 0 n)
  pub updates_are : units ≡ all_updates n part h
