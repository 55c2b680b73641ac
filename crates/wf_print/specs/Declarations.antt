-- The lines of declarations.
use Rattle.std.specs.Prelude.{ℕ, ◌++◌, List, [], Option, None, Some}
use lib.Chars.{codes}
use Rattle.wf_model.specs.declared.ids.UnitId.{UnitId}
use Rattle.wf_model.specs.declared.chart.Chart.{Chart}
use Rattle.wf_model.specs.declared.chart.Event.{Event}
use Rattle.wf_model.specs.declared.chart.Variable.{Variable}
use Rattle.wf_model.specs.declared.chart.Activity.{Activity}
use Rattle.wf_words.specs.Names.{unit_name, var_name}
use Rattle.wf_print.specs.Words.{sort_word, literal, listed}

-- chart NAME ;
abbrev pub chart_line : Chart → List ℕ
chart_line chart = codes "chart " ++ chart.name ++ codes ";\n"

-- unit NAME ;
abbrev pub unit_line : List ℕ → List ℕ
unit_line name = codes "unit " ++ name ++ codes ";\n"

-- at UNIT
abbrev pub place : Chart → UnitId → List ℕ
place chart unit = codes " at " ++ unit_name chart unit

abbrev pub place_of : Chart → Option UnitId → List ℕ
place_of chart None = []
place_of chart (Some unit) = place chart unit

-- event NAME [ at UNIT ] ;
abbrev pub event_line : Chart → Event → List ℕ
event_line chart event = codes "event " ++ event.name ++ place_of chart event.unit ++ codes ";\n"

-- var NAME : SORT = LITERAL ;
abbrev pub var_line : Variable → List ℕ
var_line x = codes "var " ++ x.name ++ codes " : " ++ sort_word x.sort ++ codes " = " ++ literal x.first ++ codes ";\n"

-- activity NAME at UNIT [ gives VAR { , VAR } ] ;
abbrev pub activity_line : Chart → Activity → List ℕ
activity_line chart a =
    codes "activity " ++ a.name ++ place chart a.unit ++ listed (codes " gives ") (var_name chart) a.outputs ++ codes ";\n"
