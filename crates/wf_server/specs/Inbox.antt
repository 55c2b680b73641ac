-- Of other calls. What a server holds of its peers.
use Rattle.std.specs.Prelude.{◌≡◌, ◌≢◌, ℕ, ◌<◌, ◌==◌, ◌&&◌, not, nat_lt, is_some, Bool, List, length, Option, Some, IsSome, if◌then◌else◌}
use Rattle.std.specs.Int.{bit_at}
use Rattle.wf_model.specs.declared.update.Update.{Update}
use Rattle.wf_model.specs.Limits.{max_units}
use Rattle.wf_parts.specs.declared.data.PartData.{PartData}
use Rattle.wf_steps.specs.Fitting.{MayBeReceived}
use Rattle.wf_server.specs.Servers.{held_in}

-- unit v is another unit of the part's chart
pub record IsPeer (part : PartData) (v : ℕ) : Type 0 where
  pub within : v < part.units
  pub other : v ≢ part.unit.0

-- an update of each peer came
abbrev pub AllCame : PartData → List (Option Update) → Type 0
AllCame part came = (v : ℕ) → IsPeer part v → IsSome (held_in came v)

-- peer v's didn't
abbrev pub is_missing : PartData → List (Option Update) → ℕ → Bool
is_missing part came v = nat_lt v part.units && (not (v == part.unit.0) && not (is_some (held_in came v)))

-- a set of units has just the peers whose update didn't come
abbrev pub AreMissing : PartData → List (Option Update) → ℕ → Type 0
AreMissing part came set = (v : ℕ) → v < max_units → bit_at set v ≡ (if is_missing part came v then 1 else 0)

-- peer v's update of this step, which may be received
pub record IsUpdateOf (part : PartData) (v step : ℕ) (update : Update) : Type 0 where
  pub peer : IsPeer part v
  pub from : update.from.0 ≡ v
  pub at_step : update.step ≡ step
  pub fit : MayBeReceived part update

-- there is a slot for each unit, and it holds that unit's update of this step, or none
pub record IsInbox (part : PartData) (step : ℕ) (slots : List (Option Update)) : Type 0 where
  pub size : length slots ≡ part.units
  pub each : (v : ℕ) (update : Update) → held_in slots v ≡ Some update → IsUpdateOf part v step update
