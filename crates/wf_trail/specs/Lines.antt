-- Of other calls. The lines of a journal's records.
use Rattle.std.specs.Prelude.{ℕ, ◌++◌, List, flat_map}
use Rattle.std.specs.List.{enumerate_from}
use Rattle.std.specs.Fmt.{decimal}
use lib.Chars.{codes}
use Rattle.wf_model.specs.declared.chart.Chart.{Chart}
use Rattle.wf_model.specs.declared.outer.Outer.{Outer}
use Rattle.wf_model.specs.declared.outer.Outer.TheVariants.{Happen, Complete}
use Rattle.wf_model.specs.declared.update.Update.{Update}
use Rattle.wf_words.specs.Names.{act_name, event_name}
use Rattle.wf_words.specs.Transitions.{trans_list}
use Rattle.wf_audit.specs.Replies.{vars_text}
use Rattle.wf_histories.specs.Histories.{Admission, TurnDone}

-- event E, or done A#I and ` x=value` for each output
abbrev pub outer_text : Chart → Outer → List ℕ
outer_text chart (Happen e) = codes "event " ++ event_name chart e
outer_text chart (Complete item act outputs) = codes "done " ++ act_name chart act ++ codes "#" ++ decimal item ++ vars_text chart outputs

-- admit N request R, and what was let in
abbrev pub admission_line : Chart → ℕ × Admission → List ℕ
admission_line chart (n, a) =
    codes "admit " ++ decimal n ++ codes " request " ++ decimal a.request ++ codes " " ++ outer_text chart a.outer ++ codes "\n"

-- those of admissions, which are numbered from this number on
abbrev pub admission_lines : Chart → ℕ → List Admission → List ℕ
admission_lines chart first admissions = flat_map (admission_line chart) (enumerate_from first admissions)

-- turn K sealed S fired, and ` tN` for each transition of the unit's own that fired in that step
abbrev pub turn_line : TurnDone → Update → List ℕ
turn_line turn own = codes "turn " ++ decimal turn.step ++ codes " sealed " ++ decimal turn.sealed ++ codes " fired" ++ trans_list own.fired ++ codes "\n"
