-- The words of the central run: what it replies to each line of a script.
use Rattle.std.specs.Prelude.{◌≡◌, ◌≤◌, ◌<◌, ℕ, ◌+◌, ◌++◌, List, [], ◌∷◌, length, map, filter, Result, Ok, Err}
use Rattle.std.specs.List.{enumerate_from}
use Rattle.wf_model.specs.Limits.{max_report}
use Rattle.wf_model.specs.declared.ids.StateId.{StateId}
use Rattle.wf_model.specs.declared.value.Val.{Val}
use Rattle.wf_model.specs.declared.chart.Chart.{Chart}
use Rattle.wf_model.specs.declared.outer.Output.{Output}
use Rattle.wf_model.specs.declared.outer.OuterFault.{OuterFault}
use Rattle.wf_model.specs.Tree.{all_states}
use Rattle.wf_model.specs.Ids.{state_id}
use Rattle.wf_semantics.specs.Configuration.{is_in}
use Rattle.wf_semantics.specs.Run.{CentralState}
use Rattle.wf_semantics.specs.Standing.{Standing, first_standing, next_entries, admission, after_admission, after_step}
use Rattle.wf_central.specs.Kept.{notes_of}
use Rattle.wf_audit.specs.declared.script.CentralLine.{CentralLine}
use Rattle.wf_audit.specs.declared.script.CentralLine.TheVariants as lines
use Rattle.wf_audit.specs.declared.central.RunFault.{RunFault}
use Rattle.wf_audit.specs.declared.central.RunFault.TheVariants as faults
use Rattle.wf_audit.specs.declared.reply.Reply.{Reply}
use Rattle.wf_audit.specs.declared.reply.Reply.TheVariants as reply
use Rattle.wf_audit.specs.Replies.{reply_text, numbered}

-- the states that are in, ascending
abbrev pub states_in : Chart → CentralState → List StateId
states_in chart c = map state_id (filter (λ s. is_in s c.configuration) (all_states chart))

-- a variable with its value
abbrev pub output : ℕ × Val → Output
output x = record { var = record { 0 = x.0 }; val = x.1 }

-- the variables with their values, in order
abbrev pub vars_of : CentralState → List Output
vars_of c = map output (enumerate_from 0 c.store)

abbrev pub answer : Result (Unit {0}) OuterFault → Reply
answer (Ok admitted) = reply.Ok
answer (Err fault) = reply.Refused fault

-- the reply to a step
abbrev pub stepped : Chart → Standing → Reply
stepped chart s = reply.Stepped (s.central.taken + 1) (notes_of chart s.central (next_entries chart s))

-- the sight of a state
abbrev pub sight_of : Chart → CentralState → Reply
sight_of chart c = reply.Central c.taken (states_in chart c) (vars_of c) c.raised

-- the reply to a line
unfoldable pub reply_of : Chart → Standing → CentralLine → Reply
reply_of chart s (lines.Outer unit outer) = answer (admission chart s unit outer)
reply_of chart s lines.Step = stepped chart s
reply_of chart s lines.Show = sight_of chart s.central

-- where the run stands after a line
unfoldable pub after_line : Chart → Standing → CentralLine → Standing
after_line chart s (lines.Outer unit outer) = after_admission chart s unit outer
after_line chart s lines.Step = after_step chart s
after_line chart s lines.Show = s

-- the line of the reply to the line with this number
abbrev pub reply_line : Chart → Standing → ℕ → CentralLine → List ℕ
reply_line chart s number line = numbered number (reply_text chart (reply_of chart s line))

-- the replies to these lines, each with its number
abbrev pub replies_to : Chart → Standing → List (ℕ × CentralLine) → List ℕ
replies_to chart s [] = []
replies_to chart s (line ∷ lines) = reply_line chart s line.0 line.1 ++ replies_to chart (after_line chart s line.1) lines

-- the text of the central run
unfoldable pub central_text : Chart → List (ℕ × CentralLine) → List ℕ
central_text chart script = replies_to chart (first_standing chart) script

-- the answer is this text, which is short enough; or it is too long, or memory ran out
abbrev pub GivesText : Result (List ℕ) RunFault → List ℕ → Type 0
GivesText (Ok text) wanted = (text ≡ wanted) × (length wanted ≤ max_report)
GivesText (Err faults.TooLong) wanted = max_report < length wanted
GivesText (Err faults.NoMemory) wanted = Unit {0}

-- the line stands behind the text, which stays short enough; or it would be too long, or memory ran out
abbrev pub Adds : Result (Unit {0}) RunFault → (before after line : List ℕ) → Type 0
Adds (Ok done) before after line = (after ≡ before ++ line) × (length after ≤ max_report)
Adds (Err faults.TooLong) before after line = max_report < length before + length line
Adds (Err faults.NoMemory) before after line = Unit {0}
