-- The written text of a play's ending.
-- Which units were recovered, what each unit shows, and the merged list.
use Rattle.std.specs.Prelude.{ℕ, ◌++◌, List, [], ◌∷◌, flat_map}
use Rattle.std.specs.List.{enumerate_from}
use Rattle.std.specs.Fmt.{decimal}
use lib.Chars.{codes}
use Rattle.wf_model.specs.declared.ids.UnitId.{UnitId}
use Rattle.wf_model.specs.declared.chart.Chart.{Chart}
use Rattle.wf_words.specs.Names.{unit_name}
use Rattle.wf_machine.specs.declared.admission.Place.{Place}
use Rattle.wf_machine.specs.declared.ending.Ending.{Ending}
use Rattle.wf_machine.specs.declared.reply.Sight.{Sight}
use Rattle.wf_play.specs.Replies.{admitted_text, recovered_text, sight_text}

-- U recovered taken K admitted N
abbrev pub recovery_line : Chart → UnitId × ℕ × ℕ → List ℕ
recovery_line chart (unit, taken, admitted) = unit_name chart unit ++ codes " " ++ recovered_text taken admitted ++ codes "\n"

-- U admitted N, and its sight
abbrev pub unit_line : Chart → Sight → List ℕ
unit_line chart sight =
    unit_name chart sight.unit ++ admitted_text sight.admitted ++ codes " " ++ sight_text chart sight ++ codes "\n"

-- ` U:n` for an admission
abbrev pub place_text : Chart → Place → List ℕ
place_text chart place = codes " " ++ unit_name chart place.unit ++ codes ":" ++ decimal place.number

-- step K and its admissions; a step without any has no line
abbrev pub step_line : Chart → ℕ × List Place → List ℕ
step_line chart (step, []) = []
step_line chart (step, place ∷ places) = codes "step " ++ decimal step ++ flat_map (place_text chart) (place ∷ places) ++ codes "\n"

-- the lines behind `end`: those of units that were recovered, those of all units, and those of steps from 1 on
unfoldable pub ending_text : Chart → Ending → List ℕ
ending_text chart ending =
    codes "end\n" ++ flat_map (recovery_line chart) ending.recovered ++ flat_map (unit_line chart) ending.sights
    ++ flat_map (step_line chart) (enumerate_from 1 ending.merged)
