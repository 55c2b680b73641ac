-- Of the laws. How the history of a server goes on.
use Rattle.std.specs.Prelude.{ℕ, ◌≡◌, ◌+◌, ◌≤◌, List}
use Rattle.wf_model.specs.declared.update.Update.{Update}
use Rattle.wf_parts.specs.declared.data.PartData.{PartData}
use Rattle.wf_histories.specs.Histories.{Admission, History, taken}
use Rattle.wf_worlds.specs.Growing.{Fits, admitted, turned}
use Rattle.wf_server.specs.Images.{Begins}
use Rattle.wf_server.specs.Sending.{letter_of}

-- SOME CALLS, CRASHES AND RESTARTS LATER. A call leaves the history, or adds an admission or a Turn; after a crash a restart finds one that
-- begins with it.
pub data Later (past : History) : History → Type 0 where
  as_it_was : Later past past
  with_admission : (h : History) (a : Admission) → Later past h → Later past (admitted h a)
  with_turn : (h : History) (inputs : List Update) → Later past h → Later past (turned h inputs)
  after_restart : (h other : History) → Later past h → Begins h other → Later past other

-- the letter of a step that was taken, or of the next one, is still the same
abbrev pub LettersStay : Type 0
LettersStay = (part : PartData) (past other : History) (v step : ℕ) → Fits past → Later past other → step ≤ taken past + 1 → letter_of part other v step ≡ letter_of part past v step
