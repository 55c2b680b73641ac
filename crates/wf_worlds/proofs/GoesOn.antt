-- A history that goes on keeps what its unit made.
use Rattle.std.proofs.Common.{◌≡◌, ℕ, zero, suc, ◌+◌, ◌<◌, ◌≤◌, List, [], ◌∷◌, ◌++◌, map, length, take, drop, get_or, refl, sym, ap, ap₂, ◌∙◌, arith, min}
use Rattle.std.specs.List.{sum, insert}
use Rattle.std.proofs.lemmas.List.{map-append, length-append, get_or_append_left, drop-append-le, take-append-le, length-drop, length-map, append-nil}
use Rattle.std.proofs.lemmas.List.Sums.{sum_by_push, sum_by-take-le}
use Rattle.std.proofs.Math.Seq.{take-suc}
use Rattle.wf_model.specs.Limits.{max_sealed}
use Rattle.wf_model.specs.declared.outer.Outer.{Outer}
use Rattle.wf_model.specs.declared.update.Update.{Update}
use Rattle.wf_parts.specs.declared.data.PartData.{PartData}
use Rattle.wf_views.specs.Views.{View}
use Rattle.wf_views.specs.OwnSteps.{own_update}
use Rattle.wf_views.specs.Absorbing.{absorbed}
use Rattle.wf_histories.specs.Histories.{Admission, TurnDone, History, seals, taken, inputs_at, sealed_by, local, local_update}
use Rattle.wf_worlds.specs.Growing.{GoesOn, Fits, UpdatesGoOn, admitted, turned, unsealed}

-- the first i numbers and the next one are no more than all
sum_next : (xs : List ℕ) (i : ℕ) → i < length xs → sum (take i xs) + get_or xs i 0 ≤ sum xs
sum_next xs i l =
    let a : sum (take (suc i) xs) ≡ sum (take i xs) + get_or xs i 0 = ap sum (take-suc xs i 0 l) ∙ sum_by_push (λ x. x) (take i xs) (get_or xs i 0) in
    let b : sum (take (suc i) xs) ≤ sum xs = sum_by-take-le (λ x. x) xs (suc i) in
    omega arith

module _ (h g : History) (on : GoesOn h g) (fits : Fits h) where
  pub seals_on : seals g ≡ seals h ++ map (λ t. t.sealed) on.later
  seals_on = ap (map (λ t. t.sealed)) on.turns ∙ map-append (λ (t : TurnDone). t.sealed) h.turns on.later

  pub taken_on : taken h ≤ taken g
  taken_on = let q : taken g ≡ length (seals h) + length (map (λ t. t.sealed) on.later) = ap length seals_on ∙ length-append (seals h) (map (λ t. t.sealed) on.later) in omega arith

  pub inputs_on : (i : ℕ) → i < taken h → inputs_at g i ≡ inputs_at h i
  inputs_on i l =
      ap (λ (ts : List TurnDone). get_or (map (λ t. t.inputs) ts) i []) on.turns
      ∙ ap (λ (ls : List (List Update)). get_or ls i []) (map-append (λ (t : TurnDone). t.inputs) h.turns on.later)
      ∙ get_or_append_left (map (λ t. t.inputs) h.turns) (map (λ t. t.inputs) on.later) [] i (omega (arith, l, length-map h.turns (λ t. t.inputs), length-map h.turns (λ t. t.sealed)))

  pub sealed_on : (j : ℕ) → j ≤ taken h → sealed_by g j ≡ sealed_by h j
  unfolding sealed_by
  sealed_on zero l = refl
  sealed_on (suc i) l =
      let lt : i < length (seals h) = omega arith in
      let below : sum (take i (seals h)) + get_or (seals h) i 0 ≤ length h.admissions = omega (arith, sum_next (seals h) i lt, fits) in
      let rest : List Admission = drop (sum (take i (seals h))) h.admissions in
      ap (map (λ a. a.outer)) (
      ap₂ (λ (ss : List ℕ) (xs : List Admission). take (get_or ss i 0) (drop (sum (take i ss)) xs)) seals_on on.admissions
      ∙ ap₂ (λ (k : ℕ) (b : List ℕ). take k (drop (sum b) (h.admissions ++ on.more))) (get_or_append_left (seals h) (map (λ t. t.sealed) on.later) 0 i lt) (take-append-le i (seals h) (map (λ t. t.sealed) on.later) (omega arith))
      ∙ ap (take (get_or (seals h) i 0)) (drop-append-le (sum (take i (seals h))) h.admissions on.more (omega arith))
      ∙ take-append-le (get_or (seals h) i 0) (drop (sum (take i (seals h))) h.admissions) on.more (omega (arith, below, length-drop (sum (take i (seals h))) h.admissions))
      )

  pub local_on : (part : PartData) (j : ℕ) → j ≤ taken h → local part g j ≡ local part h j
  unfolding local
  local_on part zero l = refl
  local_on part (suc j) l =
      ap (λ (view : View). absorbed part view (insert (inputs_at g j) part.unit.0 (own_update part (suc j) view (sealed_by g j)))) (local_on part j (omega arith))
      ∙ ap₂ (λ (ins : List Update) (es : List Outer). absorbed part (local part h j) (insert ins part.unit.0 (own_update part (suc j) (local part h j) es))) (inputs_on j (omega arith)) (sealed_on j (omega arith))

  pub update_on : (part : PartData) (j : ℕ) → j ≤ taken h + 1 → local_update part g j ≡ local_update part h j
  update_on part zero l = refl
  update_on part (suc j) l = ap₂ (own_update part (suc j)) (local_on part j (omega arith)) (sealed_on j (omega arith))

pub updates_go_on : UpdatesGoOn
updates_go_on h g part on fits = (local_on h g on fits part, update_on h g on fits part)

pub goes_on_same : (h : History) → GoesOn h h
goes_on_same h = record { more = []; later = []; admissions = sym (append-nil h.admissions); turns = sym (append-nil h.turns) }

pub admit_on : (h : History) (a : Admission) → GoesOn h (admitted h a)
admit_on h a = record { more = a ∷ []; later = []; admissions = refl; turns = sym (append-nil h.turns) }

pub turn_on : (h : History) (updates : List Update) → GoesOn h (turned h updates)
turn_on h updates = record { more = []; later = record { step = taken h + 1; inputs = updates; sealed = min max_sealed (unsealed h) } ∷ []; admissions = sym (append-nil h.admissions); turns = refl }
