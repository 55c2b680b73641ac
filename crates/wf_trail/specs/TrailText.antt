-- Of other calls. The text of a unit's trail: what its journal holds.
use Rattle.std.specs.Prelude.{ℕ, ◌+◌, ◌++◌, List, [], ◌∷◌, take, drop, Option, Some, None}
use lib.Chars.{codes}
use Rattle.wf_model.specs.Ids.{unit_id}
use Rattle.wf_model.specs.declared.ids.UnitId.{UnitId}
use Rattle.wf_model.specs.declared.chart.Chart.{Chart}
use Rattle.wf_model.specs.declared.update.Update.{Update}
use Rattle.wf_words.specs.Names.{unit_name}
use Rattle.wf_parts.specs.Parts.{part_of}
use Rattle.wf_histories.specs.Histories.{Admission, TurnDone, History}
use Rattle.wf_agreement.specs.Own.{own_updates}
use Rattle.wf_trail.specs.Lines.{admission_lines, turn_line}

-- The lines of these Turns, each with the unit's own update of its step and behind the admissions that it seals, which are the
-- first of those that wait; at last the admissions that no Turn seals. The first that waits has number n.
abbrev pub lines_from : Chart → ℕ → List Admission → List TurnDone → List Update → List ℕ
lines_from chart n waiting [] updates = admission_lines chart n waiting
lines_from chart n waiting (turn ∷ turns) [] = admission_lines chart n waiting
lines_from chart n waiting (turn ∷ turns) (own ∷ updates) =
    admission_lines chart n (take turn.sealed waiting) ++ turn_line turn own
    ++ lines_from chart (n + turn.sealed) (drop turn.sealed waiting) turns updates

-- the lines of the history of unit u
abbrev pub history_text : Chart → ℕ → History → List ℕ
history_text chart u h = lines_from chart 1 h.admissions h.turns (own_updates (part_of chart u) h)

-- head CHART UNIT
abbrev pub head_line : Chart → UnitId → List ℕ
head_line chart unit = codes "head " ++ chart.name ++ codes " " ++ unit_name chart unit ++ codes "\n"

-- empty, or the head and the history that is kept
abbrev pub kept_text : Chart → ℕ → Option History → List ℕ
kept_text chart u None = codes "empty\n"
kept_text chart u (Some h) = head_line chart (unit_id u) ++ history_text chart u h

-- unit U, and what it kept: nothing where its journal has no frame
unfoldable pub unit_text : Chart → ℕ → Option History → List ℕ
unit_text chart u kept = codes "unit " ++ unit_name chart (unit_id u) ++ codes "\n" ++ kept_text chart u kept
