-- Histories that begin with another one.
use Rattle.std.proofs.Common.{◌≡◌, ℕ, ◌+◌, ◌≤◌, List, ◌++◌, length, take, drop, refl, sym, ap, ◌∙◌}
use Rattle.std.proofs.Math.Seq.{take-append_seam, take-length}
use Rattle.std.proofs.lemmas.List.{take-append-drop, append_assoc}
use Rattle.wf_model.specs.declared.update.Update.{Update}
use Rattle.wf_codec.specs.Spelling.{spelling_of}
use Rattle.wf_parts.specs.declared.data.PartData.{PartData}
use Rattle.wf_views.specs.Relevant.{relevant}
use Rattle.wf_histories.specs.Histories.{Admission, TurnDone, History, taken, local_update}
use Rattle.wf_worlds.specs.Growing.{GoesOn, Fits, admitted, turned}
use Rattle.wf_worlds.proofs.GoesOn.{update_on, goes_on_same, admit_on, turn_on}
use Rattle.wf_server.specs.Images.{Begins}
use Rattle.wf_server.specs.Sending.{letter_of}
use Rattle.wf_server.specs.Laws.{Later, as_it_was, with_admission, with_turn, after_restart, LettersStay}

pub begins_same : (h : History) → Begins h h
begins_same h = record { admissions = take-length h.admissions; turns = take-length h.turns }

pub begins_admitted : (h : History) (a : Admission) → Begins h (admitted h a)
begins_admitted h a = record { admissions = take-append_seam h.admissions _; turns = take-length h.turns }

pub begins_turned : (h : History) (inputs : List Update) → Begins h (turned h inputs)
begins_turned h inputs = record { admissions = take-length h.admissions; turns = take-append_seam h.turns _ }

goes_on : (h g : History) → Begins h g → GoesOn h g
goes_on h g on = record {
  more = drop (length h.admissions) g.admissions;
  later = drop (length h.turns) g.turns;
  admissions = sym (take-append-drop (length h.admissions) g.admissions) ∙ ap (λ (l : List Admission). l ++ drop (length h.admissions) g.admissions) on.admissions;
  turns = sym (take-append-drop (length h.turns) g.turns) ∙ ap (λ (l : List TurnDone). l ++ drop (length h.turns) g.turns) on.turns;
}

-- the letter of a step taken, or of the next one, is the same by each history that goes on from this one
letter_on : (part : PartData) (h g : History) (v step : ℕ) → Fits h → GoesOn h g → step ≤ taken h + 1 → letter_of part g v step ≡ letter_of part h v step
letter_on part h g v step fits on within = ap (λ (update : Update). spelling_of (relevant part.peers update v)) (update_on h g on fits part step within)

pub letter_same : (part : PartData) (h g : History) (v step : ℕ) → Fits h → Begins h g → step ≤ taken h + 1 → letter_of part g v step ≡ letter_of part h v step
letter_same part h g v step fits on within = letter_on part h g v step fits (goes_on h g on) within

-- SOME CALLS, CRASHES AND RESTARTS LATER

goes_on_then : (h g k : History) → GoesOn h g → GoesOn g k → GoesOn h k
goes_on_then h g k first second = record {
  more = first.more ++ second.more;
  later = first.later ++ second.later;
  admissions = second.admissions ∙ ap (λ (l : List Admission). l ++ second.more) first.admissions ∙ append_assoc h.admissions first.more second.more;
  turns = second.turns ∙ ap (λ (l : List TurnDone). l ++ second.later) first.turns ∙ append_assoc h.turns first.later second.later;
}

later_on : (past : History) {other : History} → Later past other → GoesOn past other
later_on past as_it_was = goes_on_same past
later_on past (with_admission h a later) = goes_on_then past h (admitted h a) (later_on past later) (admit_on h a)
later_on past (with_turn h inputs later) = goes_on_then past h (turned h inputs) (later_on past later) (turn_on h inputs)
later_on past (after_restart h g later on) = goes_on_then past h g (later_on past later) (goes_on h g on)

pub letters_stay : LettersStay
letters_stay part past other v step fits later within = letter_on part past other v step fits (later_on past later) within
