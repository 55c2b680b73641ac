-- A history with one Turn more.
use Rattle.std.proofs.Common.{◌≡◌, ℕ, zero, suc, ◌+◌, ◌-◌, ◌<◌, ◌≤◌, List, [], ◌∷◌, ◌++◌, map, length, take, drop, get_or, refl, sym, ap, ap₂, ◌∙◌, arith, min}
use Rattle.std.specs.List.{sum, insert}
use Rattle.std.proofs.lemmas.List.{map-append, length-append, length-map, get_or-append_right}
use Rattle.std.proofs.lemmas.List.Sums.{sum_by_push}
use Rattle.std.proofs.Math.Seq.{get_or-append_seam, take-append_seam}
use Rattle.wf_model.specs.Limits.{max_sealed}
use Rattle.wf_model.specs.declared.outer.Outer.{Outer}
use Rattle.wf_model.specs.declared.update.Update.{Update}
use Rattle.wf_parts.specs.declared.data.PartData.{PartData}
use Rattle.wf_views.specs.OwnSteps.{own_update}
use Rattle.wf_views.specs.Absorbing.{absorbed}
use Rattle.wf_histories.specs.Histories.{Admission, TurnDone, History, seals, taken, inputs_at, sealed_by, local, local_update}
use Rattle.wf_worlds.specs.Admitting.{outers}
use Rattle.wf_worlds.specs.Growing.{Fits, unsealed, admitted, turned}
use Rattle.wf_worlds.proofs.GoesOn.{local_on, update_on, turn_on, admit_on}
use Rattle.wf_worlds.proofs.Growing.{turn_seals, turn_takes}
use Rattle.wf_steps.specs.Growing.{sealing}
use Rattle.wf_steps.specs.Items.{all_at}

pub turn_fits : (h : History) (inputs : List Update) → Fits h → Fits (turned h inputs)
turn_fits h inputs fits =
    let q : sum (seals (turned h inputs)) ≡ sum (seals h) + min max_sealed (unsealed h) = ap sum (turn_seals h inputs) ∙ sum_by_push (λ x. x) (seals h) (min max_sealed (unsealed h)) in
    omega (arith, q, fits)

pub admit_fits : (h : History) (a : Admission) → Fits h → Fits (admitted h a)
admit_fits h a fits = omega (arith, fits, length-append h.admissions (a ∷ []))

same_length : (h : History) → length (map (λ turn. turn.inputs) h.turns) ≡ taken h
same_length h = length-map h.turns (λ turn. turn.inputs) ∙ sym (length-map h.turns (λ turn. turn.sealed))

-- what the Turn took in, and what it seals
pub inputs_now : (h : History) (inputs : List Update) → inputs_at (turned h inputs) (taken h) ≡ inputs
inputs_now h inputs =
    ap (λ (l : List (List Update)). get_or l (taken h) []) (map-append (λ turn. turn.inputs) h.turns (record { step = taken h + 1; inputs = inputs; sealed = min max_sealed (unsealed h) } ∷ []))
    ∙ get_or-append_right (map (λ turn. turn.inputs) h.turns) (inputs ∷ []) (taken h) (taken h) [] (same_length h) (omega arith)
    ∙ ap (λ i. get_or (inputs ∷ []) i []) (let e : taken h - taken h ≡ 0 = omega arith in e)

pub sealed_now : (h : History) (inputs : List Update) → sealed_by (turned h inputs) (suc (taken h)) ≡ outers (take (sealing h) (drop (sum (seals h)) h.admissions))
unfolding sealed_by
sealed_now h inputs =
    ap (λ (ss : List ℕ). outers (take (get_or ss (taken h) 0) (drop (sum (take (taken h) ss)) h.admissions))) (turn_seals h inputs)
    ∙ ap₂ (λ (k : ℕ) (ss : List ℕ). outers (take k (drop (sum ss) h.admissions))) (get_or-append_seam (seals h) (sealing h) [] 0) (take-append_seam (seals h) (sealing h ∷ []))

module _ (part : PartData) (h : History) (inputs : List Update) (fits : Fits h) where
  pub all_now : all_at part (turned h inputs) (taken h) ≡ insert inputs part.unit.0 (local_update part h (suc (taken h)))
  all_now = ap₂ (λ (i : List Update) (own : Update). insert i part.unit.0 own) (inputs_now h inputs) (update_on h (turned h inputs) (turn_on h inputs) fits part (suc (taken h)) (omega arith))

  -- the view and the own update behind the Turn
  pub view_now : local part (turned h inputs) (suc (taken h)) ≡ absorbed part (local part h (taken h)) (insert inputs part.unit.0 (local_update part h (suc (taken h))))
  unfolding local
  view_now = ap₂ (λ v (all : List Update). absorbed part v all) (local_on h (turned h inputs) (turn_on h inputs) fits part (taken h) (omega arith)) all_now

  pub update_now : local_update part (turned h inputs) (suc (suc (taken h)))
      ≡ own_update part (suc (suc (taken h))) (absorbed part (local part h (taken h)) (insert inputs part.unit.0 (local_update part h (suc (taken h))))) (outers (take (sealing h) (drop (sum (seals h)) h.admissions)))
  update_now = ap₂ (λ v (o : List Outer). own_update part (suc (suc (taken h))) v o) view_now (sealed_now h inputs)
