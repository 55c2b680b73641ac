-- The written text of replies.
use Rattle.std.specs.Prelude.{ℕ, List, [], ◌∷◌, ◌++◌, flat_map, if◌then◌else◌}
use Rattle.std.specs.Fmt.{decimal, signed_decimal}
use lib.Chars.{codes}
use Rattle.wf_model.specs.declared.ids.ActId.{ActId}
use Rattle.wf_model.specs.declared.ids.EventId.{EventId}
use Rattle.wf_model.specs.declared.ids.StateId.{StateId}
use Rattle.wf_model.specs.declared.value.Val.{Val}
use Rattle.wf_model.specs.declared.value.Val.TheVariants as v
use Rattle.wf_model.specs.declared.chart.Chart.{Chart}
use Rattle.wf_model.specs.declared.outer.Output.{Output}
use Rattle.wf_model.specs.declared.outer.OuterFault.{OuterFault}
use Rattle.wf_model.specs.declared.outer.OuterFault.TheVariants.{WrongUnit, NoItem, AlreadyDone, WrongOutput}
use Rattle.wf_words.specs.Names.{act_name, event_name, state_name, var_name}
use Rattle.wf_words.specs.Transitions.{trans_list}
use Rattle.wf_model.specs.declared.step_notes.StepNotes.{StepNotes}
use Rattle.wf_audit.specs.declared.reply.Reply.{Reply}
use Rattle.wf_audit.specs.declared.reply.Reply.TheVariants as reply

-- PARTS

-- `true`, `false`, decimal with `-`, text in quotes
abbrev pub value_text : Val → List ℕ
value_text (v.Bool b) = if b then codes "true" else codes "false"
value_text (v.Int z) = signed_decimal z
value_text (v.Text t) = 34 ∷ t ++ 34 ∷ []

-- ` A#n` for each start: the activity's name and the item's number
abbrev pub starts_text : Chart → List (ActId × ℕ) → List ℕ
starts_text chart starts = flat_map (λ s. codes " " ++ act_name chart s.0 ++ codes "#" ++ decimal s.1) starts

-- ` NAME` for each state
abbrev pub states_text : Chart → List StateId → List ℕ
states_text chart states = flat_map (λ s. codes " " ++ state_name chart s) states

-- ` x=value` for each variable
abbrev pub vars_text : Chart → List Output → List ℕ
vars_text chart vars = flat_map (λ x. codes " " ++ var_name chart x.var ++ codes "=" ++ value_text x.val) vars

-- ` E` for each event
abbrev pub raised_text : Chart → List EventId → List ℕ
raised_text chart raised = flat_map (λ e. codes " " ++ event_name chart e) raised

-- REPLIES

abbrev pub fault_text : OuterFault → List ℕ
fault_text WrongUnit = codes "wrong unit"
fault_text NoItem = codes "no item"
fault_text AlreadyDone = codes "already done"
fault_text WrongOutput = codes "wrong output"

-- what a step did
abbrev pub step_text : Chart → ℕ → StepNotes → List ℕ
step_text chart step notes =
    codes "step " ++ decimal step ++ codes " fired" ++ trans_list notes.fired ++ codes " starts" ++ starts_text chart notes.starts

-- the steps that were taken, the states that are in, and the variables
unfoldable pub shown_text : Chart → ℕ → List StateId → List Output → List ℕ
shown_text chart taken states vars =
    codes "after " ++ decimal taken ++ codes " in" ++ states_text chart states ++ codes " vars" ++ vars_text chart vars

-- the sight of the central run: that, and the events raised in the last step
abbrev pub sight_text : Chart → ℕ → List StateId → List Output → List EventId → List ℕ
sight_text chart taken states vars raised = shown_text chart taken states vars ++ codes " raised" ++ raised_text chart raised

-- the text of a reply
unfoldable pub reply_text : Chart → Reply → List ℕ
reply_text chart reply.Ok = codes "ok"
reply_text chart (reply.Refused fault) = fault_text fault
reply_text chart (reply.Stepped step notes) = step_text chart step notes
reply_text chart (reply.Central taken states vars raised) = sight_text chart taken states vars raised

-- the line of a reply to the script's line n
unfoldable pub numbered : ℕ → List ℕ → List ℕ
numbered n text = decimal n ++ codes ": " ++ text ++ codes "\n"
