-- Of the laws. A unit's history, and what the unit makes of it by its part alone.
use Rattle.std.specs.Prelude.{ℕ, zero, suc, List, [], map, length, take, drop, get_or, sum, insert}
use Rattle.wf_model.specs.declared.ids.UnitId.{UnitId}
use Rattle.wf_model.specs.declared.outer.Outer.{Outer}
use Rattle.wf_parts.specs.declared.data.PartData.{PartData}
use Rattle.wf_model.specs.declared.update.Update.{Update}
use Rattle.wf_views.specs.Views.{View, first_view}
use Rattle.wf_views.specs.OwnSteps.{own_update}
use Rattle.wf_views.specs.Absorbing.{absorbed}

pub record Admission : Type 0 where
  pub request : ℕ
  pub outer : Outer

pub record TurnDone : Type 0 where
  pub step : ℕ
  pub inputs : List Update
  pub sealed : ℕ

pub record History : Type 0 where
  pub unit : UnitId
  pub admissions : List Admission
  pub turns : List TurnDone

-- the sealed number of each Turn
abbrev pub seals : History → List ℕ
seals h = map (λ turn. turn.sealed) h.turns

abbrev pub taken : History → ℕ
taken h = length (seals h)

-- what the Turn to step j + 1 kept of the peers, in unit order
abbrev pub inputs_at : History → ℕ → List Update
inputs_at h j = get_or (map (λ turn. turn.inputs) h.turns) j []

-- what the admissions hold that Turn j sealed; there is no Turn 0
unfoldable pub sealed_by : History → ℕ → List Outer
sealed_by h zero = []
sealed_by h (suc i) = map (λ admission. admission.outer) (take (get_or (seals h) i 0) (drop (sum (take i (seals h))) h.admissions))

-- the update of step 0
abbrev pub no_update : UnitId → Update
no_update unit = record { from = unit; step = 0; flips = []; writes = []; raised = []; starts = []; fired = []; outer = [] }

-- the view after j Turns: each takes in its inputs with the own update of that step in its place
unfoldable pub local : PartData → History → ℕ → View
local part h zero = first_view part
local part h (suc j) = absorbed part (local part h j) (insert (inputs_at h j) part.unit.0 (own_update part (suc j) (local part h j) (sealed_by h j)))

-- the unit's update of step j
abbrev pub local_update : PartData → History → ℕ → Update
local_update part h zero = no_update part.unit
local_update part h (suc j) = own_update part (suc j) (local part h j) (sealed_by h j)
