-- Of other calls. Which admissions and Turns may follow, and the histories that they make.
use Rattle.std.specs.Prelude.{ℕ, suc, ◌≡◌, ◌+◌, ◌<◌, ◌==◌, true, List, min, position, Option, None, is_ok}
use Rattle.std.specs.List.{AllByRecursion}
use Rattle.wf_model.specs.Limits.{max_steps, max_sealed}
use Rattle.wf_model.specs.declared.update.Update.{Update}
use Rattle.wf_parts.specs.declared.data.PartData.{PartData}
use Rattle.wf_codec.specs.Ranges.{IsInRange}
use Rattle.wf_histories.specs.Histories.{Admission, History, taken}
use Rattle.wf_worlds.specs.Admitting.{lets_in}
use Rattle.wf_worlds.specs.Growing.{unsealed, admitted, turned}
use Rattle.wf_worlds.specs.Worlds.{first_history}
use Rattle.wf_steps.specs.Fitting.{are_inputs}

-- the place of the admission of this request, counted from 0
abbrev pub place_of : History → ℕ → Option ℕ
place_of h request = position (λ a. a.request == request) h.admissions

-- how many admissions the next Turn seals
abbrev pub sealing : History → ℕ
sealing h = min max_sealed (unsealed h)

-- this admission may follow: its request is new, and the part lets its outer in
pub record MayAdmit (part : PartData) (h : History) (a : Admission) : Type 0 where
  pub fresh : place_of h a.request ≡ None
  pub lets : is_ok (lets_in part h a.outer) ≡ true

-- the Turn that takes in these updates may follow
pub record MayTurn (part : PartData) (h : History) (inputs : List Update) : Type 0 where
  pub steps : taken h < max_steps
  pub suited : are_inputs part (taken h + 1) inputs ≡ true
  pub ranges : AllByRecursion IsInRange inputs

-- SOME RECORDS MAKE THIS HISTORY, each of which may follow those before it
pub data IsMade (part : PartData) : History → Type 0 where
  no_records : IsMade part (first_history part.unit.0)
  with_admission : (h : History) (a : Admission) → IsMade part h → MayAdmit part h a → IsMade part (admitted h a)
  with_turn : (h : History) (inputs : List Update) → IsMade part h → MayTurn part h inputs → IsMade part (turned h inputs)
