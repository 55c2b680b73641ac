-- What was found of a shelf's journals, and the answer that tells it.
use Rattle.std.proofs.Common.{◌≡◌, ◌≢◌, ℕ, List, Result, Ok, Err, IsOk, IsErrAnd, IfOk, OnOk, refl, subst}
use Rattle.wf_model.specs.declared.chart.Chart.{Chart}
use Rattle.wf_model.specs.Faults.{Rose}
use Rattle.wf_trail.specs.declared.fault.TrailFault.{TrailFault}
use Rattle.wf_trail.specs.declared.fault.TrailFault.TheVariants as f
use Rattle.wf_trail.specs.Shelves.{IsOfDisk}
use Rattle.wf_top.specs.declared.answer.Answer.{Answer}
use Rattle.wf_top.specs.declared.command.Task.TheVariants.{Trail}
use Rattle.wf_top.specs.Tasks.{HasStatus}
use Rattle.wf_top.specs.Trails.{trail_answer}

-- the status of what was found, unless memory ran out
found_status : (chart : Chart) (found : Result (List ℕ) TrailFault) (before now : ℕ) → found ≢ Err f.NoMemory → (IsOk found → now ≡ before)
    → (IsErrAnd found IsOfDisk → Rose before now) → HasStatus Trail (trail_answer chart found).status before now
found_status chart (Ok text) before now other kept rose = kept refl
found_status chart (Err (f.DiskFailed unit)) before now other kept rose = rose tt
found_status chart (Err (f.Foreign unit holds wants)) before now other kept rose = tt
found_status chart (Err (f.Bad unit at first)) before now other kept rose = tt
found_status chart (Err f.TooLong) before now other kept rose = tt
found_status chart (Err f.NoMemory) before now other kept rose = absurd (other refl)

-- and so of the answer that tells it
pub trail_status : {E : Type 0} (chart : Chart) (found : Result (List ℕ) TrailFault) (before now : ℕ) (r : Result Answer E)
    → IfOk r (λ a. trail_answer chart found ≡ a) → OnOk r (found ≢ Err f.NoMemory) → (IsOk found → now ≡ before)
    → (IsErrAnd found IsOfDisk → Rose before now) → IfOk r (λ a. HasStatus Trail a.status before now)
trail_status chart found before now (Ok a) is other kept rose =
    subst (λ (x : Answer). HasStatus Trail x.status before now) is (found_status chart found before now other kept rose)
trail_status chart found before now (Err e) is other kept rose = tt
