-- Of other calls. What holds of all units of a world together.
use Rattle.std.specs.Prelude.{◌≡◌, ◌<◌, ◌≤◌, ℕ, is_ok, min, true, List, length, slice_get, unwrap_or, Some}
use Rattle.wf_model.specs.Limits.{max_sealed}
use Rattle.wf_model.specs.declared.chart.Chart.{Chart}
use Rattle.wf_model.specs.declared.update.Update.{Update}
use Rattle.wf_parts.specs.Parts.{part_of}
use Rattle.wf_machine.specs.declared.admission.Admission as of
use Rattle.wf_machine.specs.Server.{Admits, Turns}
use Rattle.wf_histories.specs.Histories.{History, taken}
use Rattle.wf_histories.specs.Agreement.{Agree, lean}
use Rattle.wf_worlds.specs.Admitting.{lets_in}
use Rattle.wf_worlds.specs.Growing.{Fits, Good, unsealed}
use Rattle.wf_worlds.specs.Worlds.{IsMade}
use Rattle.wf_slot.specs.Units.{UnitState, new_unit}

-- unit u of these, and one to which nothing was done where there is none
abbrev pub unit_at : List UnitState → ℕ → UnitState
unit_at units u = unwrap_or (slice_get units u) (new_unit u)

-- the histories, by unit
abbrev pub hist_of : List UnitState → ℕ → History
hist_of units u = (unit_at units u).past

-- The histories that stand for sure agree, each seals no more than it has and is good. What a unit holds is what its sender made. An admission
-- in doubt may be let in; a turn in doubt seals what the next turn does, and no unit is behind it.
pub record IsSound (chart : Chart) (units : List UnitState) : Type 0 where
  pub agree : Agree (lean chart) (length chart.units) (part_of chart) (hist_of units)
  pub fits : (u : ℕ) → u < length chart.units → Fits (hist_of units u)
  pub good : (u : ℕ) → u < length chart.units → Good chart u (hist_of units u)
  pub held : (u v j : ℕ) (update : Update) → u < length chart.units → v < length chart.units → (unit_at units u).held v j ≡ Some update → IsMade chart (hist_of units) v u j update
  pub admits : (u : ℕ) (a : of.Admission) → u < length chart.units → (unit_at units u).doubt ≡ Some (Admits a) → is_ok (lets_in (part_of chart u) (hist_of units u) a.outer) ≡ true
  pub turns : (u n : ℕ) → u < length chart.units → (unit_at units u).doubt ≡ Some (Turns n) →
      (n ≡ min max_sealed (unsealed (hist_of units u))) × ((v : ℕ) → v < length chart.units → taken (hist_of units u) ≤ taken (hist_of units v))
