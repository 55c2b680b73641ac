-- The lines of a history, one record after another.
use Rattle.std.proofs.Common.{◌≡◌, ℕ, suc, ◌+◌, ◌<◌, ◌≤◌, List, [], ◌∷◌, ◌++◌, length, take, drop, get_or, refl, sym, ap, ap₂, ◌∙◌, subst, arith, append_assoc, drop-cons}
use Rattle.std.specs.List.{sum, sum_by}
use Rattle.std.proofs.lemmas.List.{drop-drop, take_all, drop_all, length-map}
use Rattle.std.proofs.lemmas.List.FromFn.{length-map-range_with_len}
use Rattle.std.proofs.lemmas.List.Sums.{sum-map, sum_by_more, sum_by_more_le}
use Rattle.wf_model.specs.declared.chart.Chart.{Chart}
use Rattle.wf_model.specs.declared.update.Update.{Update}
use Rattle.wf_parts.specs.declared.data.PartData.{PartData}
use Rattle.wf_histories.specs.Histories.{Admission, TurnDone, History, seals, taken, local_update}
use Rattle.wf_steps.specs.Growing.{IsMade}
use Rattle.wf_steps.proofs.Made.{made_fits}
use Rattle.wf_agreement.specs.Own.{own_updates}
use Rattle.wf_trail.specs.Lines.{admission_line, admission_lines, turn_line}
use Rattle.wf_trail.specs.TrailText.{lines_from}

-- what stands at a place is the first of what is left from there on
pub first_left : {A : Type 0} (xs : List A) (at : ℕ) (x : A) → at < length xs → x ≡ get_or xs at x → drop at xs ≡ x ∷ drop (at + 1) xs
first_left {A = A} xs at x within is =
    let more : at + 1 ≡ suc at = omega arith in
    drop-cons xs at x within ∙ ap₂ (λ (y : A) (ys : List A). y ∷ ys) (sym is) (ap (λ (n : ℕ). drop n xs) (sym more))

-- one admission more
pub admission_added : (chart : Chart) (before at : ℕ) (admissions : List Admission) (a : Admission) (text now whole : List ℕ) → at < length admissions → a ≡ get_or admissions at a →
    now ≡ text ++ admission_line chart (before + at + 1, a) → text ++ admission_lines chart (before + at + 1) (drop at admissions) ≡ whole →
    now ++ admission_lines chart (before + (at + 1) + 1) (drop (at + 1) admissions) ≡ whole
admission_added chart before at admissions a text now whole within is added so_far =
    let rest : ℕ → List ℕ = λ n. admission_lines chart n (drop (at + 1) admissions) in
    let number : before + (at + 1) + 1 ≡ before + at + 1 + 1 = omega arith in
    ap₂ (λ (t : List ℕ) (n : ℕ). t ++ rest n) added number
    ∙ append_assoc text (admission_line chart (before + at + 1, a)) (rest (before + at + 1 + 1))
    ∙ ap (λ (l : List Admission). text ++ admission_lines chart (before + at + 1) l) (sym (first_left admissions at a within is))
    ∙ so_far

-- the lines of one Turn more
pub turn_more : (chart : Chart) (sealed at : ℕ) (admissions : List Admission) (turns : List TurnDone) (updates : List Update) (turn : TurnDone) (own : Update) →
    drop at turns ≡ turn ∷ drop (at + 1) turns → drop at updates ≡ own ∷ drop (at + 1) updates →
    lines_from chart (sealed + 1) (drop sealed admissions) (drop at turns) (drop at updates)
    ≡ admission_lines chart (sealed + 1) (take turn.sealed (drop sealed admissions)) ++ turn_line turn own
    ++ lines_from chart (sealed + turn.sealed + 1) (drop (sealed + turn.sealed) admissions) (drop (at + 1) turns) (drop (at + 1) updates)
turn_more chart sealed at admissions turns updates turn own turn_is own_is =
    ap₂ (lines_from chart (sealed + 1) (drop sealed admissions)) turn_is own_is
    ∙ ap₂ (λ (n : ℕ) (waiting : List Admission). admission_lines chart (sealed + 1) (take turn.sealed (drop sealed admissions)) ++ turn_line turn own
    ++ lines_from chart n waiting (drop (at + 1) turns) (drop (at + 1) updates))
    (let e : sealed + 1 + turn.sealed ≡ sealed + turn.sealed + 1 = omega arith in e) (drop-drop turn.sealed sealed admissions)

-- one Turn more, behind the admissions that it seals
pub turn_added : (chart : Chart) (sealed at : ℕ) (admissions : List Admission) (turns : List TurnDone) (updates : List Update) (turn : TurnDone) (own : Update) (here : List Admission) (text with_here now whole : List ℕ) →
    at < length turns → turn ≡ get_or turns at turn → at < length updates → own ≡ get_or updates at own → here ≡ take turn.sealed (drop sealed admissions) →
    with_here ≡ text ++ admission_lines chart (sealed + 1) here → now ≡ with_here ++ turn_line turn own →
    text ++ lines_from chart (sealed + 1) (drop sealed admissions) (drop at turns) (drop at updates) ≡ whole →
    now ++ lines_from chart (sealed + turn.sealed + 1) (drop (sealed + turn.sealed) admissions) (drop (at + 1) turns) (drop (at + 1) updates) ≡ whole
turn_added chart sealed at admissions turns updates turn own here text with_here now whole within turn_is within_updates own_is here_is first second so_far =
    let lines : List ℕ = admission_lines chart (sealed + 1) (take turn.sealed (drop sealed admissions)) in
    let rest : List ℕ = lines_from chart (sealed + turn.sealed + 1) (drop (sealed + turn.sealed) admissions) (drop (at + 1) turns) (drop (at + 1) updates) in
    let so_first : with_here ≡ text ++ lines = first ∙ ap (λ (l : List Admission). text ++ admission_lines chart (sealed + 1) l) here_is in
    let middle : ((text ++ lines) ++ turn_line turn own) ++ rest ≡ text ++ (lines ++ turn_line turn own ++ rest) = simp append_assoc in
    ap (λ (t : List ℕ). t ++ rest) (second ∙ ap (λ (t : List ℕ). t ++ turn_line turn own) so_first)
    ∙ middle
    ∙ ap (λ (t : List ℕ). text ++ t) (sym (turn_more chart sealed at admissions turns updates turn own (first_left turns at turn within turn_is) (first_left updates at own within_updates own_is)))
    ∙ so_far

abbrev pub sealed_by : TurnDone → ℕ
sealed_by turn = turn.sealed

-- what a Turn seals was admitted
module _ (turns : List TurnDone) (at : ℕ) (turn : TurnDone) (within : at < length turns) (is : turn ≡ get_or turns at turn) where
  pub sealed_fits : (count : ℕ) → sum_by sealed_by turns ≤ count → sum_by sealed_by (take at turns) + turn.sealed ≤ count
  sealed_fits count fits =
      let all = sum_by_more_le sealed_by turns at turn within in
      let same : turn.sealed ≡ (get_or turns at turn).sealed = ap sealed_by is in
      omega (arith, all, fits, same)

  pub sealed_more : sum_by sealed_by (take at turns) + turn.sealed ≡ sum_by sealed_by (take (at + 1) turns)
  sealed_more = ap (λ (n : ℕ). sum_by sealed_by (take at turns) + n) (ap sealed_by is) ∙ sym (sum_by_more sealed_by turns at turn within)

-- nor is more sealed at the end
pub end_fits : (turns : List TurnDone) (count at : ℕ) → sum_by sealed_by turns ≤ count → length turns ≤ at → sum_by sealed_by (take at turns) ≤ count
end_fits turns count at fits past = subst (λ (l : List TurnDone). sum_by sealed_by l ≤ count) (sym (take_all at turns past)) fits

-- what a history seals, turn by turn
seals_sum : (h : History) (count : ℕ) → sum (seals h) ≤ count → sum_by sealed_by h.turns ≤ count
seals_sum h count fits = subst (λ (n : ℕ). n ≤ count) (sum-map sealed_by h.turns) fits

-- nor does one that records made seal more than it admitted
pub turns_fit : (part : PartData) (h : History) → IsMade part h → sum_by sealed_by h.turns ≤ length h.admissions
turns_fit part h made = seals_sum h (length h.admissions) (made_fits part made)

-- there is an own update of each Turn
pub updates_len : (part : PartData) (h : History) → length (own_updates part h) ≡ length h.turns
updates_len part h = length-map-range_with_len (local_update part h) 1 (taken h) ∙ length-map h.turns sealed_by

-- at the end only admissions are left
pub last_lines : (chart : Chart) (sealed at : ℕ) (admissions : List Admission) (turns : List TurnDone) (updates : List Update) → length turns ≤ at →
    lines_from chart (sealed + 1) (drop sealed admissions) (drop at turns) (drop at updates) ≡ admission_lines chart (sealed + 1) (drop sealed admissions)
last_lines chart sealed at admissions turns updates past = ap (λ (l : List TurnDone). lines_from chart (sealed + 1) (drop sealed admissions) l (drop at updates)) (drop_all at turns past)
