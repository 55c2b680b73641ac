-- What the program has to answer: a status, and a text.
use Rattle.std.specs.Prelude.{◌≡◌, ℕ, Bool, ◌&&◌, List, [], ◌∷◌, nat_le, length, Option, Some, None, Result, Ok, Err, option_map, if◌then◌else◌}
use Rattle.std.specs.List.{list_all}
use Rattle.std.specs.Str.{bytes_eq}
use lib.Chars.{codes}
use Rattle.wf_model.specs.Names.{is_digit}
use Rattle.wf_model.specs.Limits.{max_input, max_lines, max_report}
use Rattle.wf_model.specs.declared.chart.Chart.{Chart}
use Rattle.wf_model.specs.declared.status.Status.{Status}
use Rattle.wf_model.specs.declared.status.Status.TheVariants as status
use Rattle.wf_cursor.specs.Values.{number_up_to}
use Rattle.wf_text.specs.declared.chart_fault.ChartFault.{ChartFault}
use Rattle.wf_text.specs.Text.{chart_of}
use Rattle.wf_check.specs.declared.fault.CheckFault.{CheckFault}
use Rattle.wf_check.specs.FirstFault.{first_fault}
use Rattle.wf_refusals.specs.Lines.{refusal}
use Rattle.wf_refusals.specs.TextFaults.{text_fault_line}
use Rattle.wf_refusals.specs.CheckFaults.{check_fault_line}
use Rattle.wf_refusals.specs.Accepted.{accepted_line}
use Rattle.wf_refusals.specs.Scripts.{script_line, too_many_lines, too_long_report}
use Rattle.wf_machine.specs.declared.line.Line.{Line}
use Rattle.wf_machine.specs.Machine.{first_machine}
use Rattle.wf_machine.specs.Runs.{Outcomes}
use Rattle.wf_play.specs.Script.{play_of}
use Rattle.wf_world.specs.Sent.{passes}
use Rattle.wf_audit.specs.declared.script.CentralLine.{CentralLine}
use Rattle.wf_scripts.specs.declared.script.ScriptFault.{ScriptFault}
use Rattle.wf_scripts.specs.declared.script.ScriptFault.TheVariants as script
use Rattle.wf_scripts.specs.Lines.{lines_of, chart_part, script_part}
use Rattle.wf_audit.specs.Script.{script_of}
use Rattle.wf_audit.specs.CentralText.{central_text}
use Rattle.wf_partition.specs.SplitText.{split_text}
use Rattle.wf_top.specs.declared.command.Command.{Command}
use Rattle.wf_top.specs.declared.command.Command.TheVariants.{Check, Central, Split, Play}
use Rattle.wf_top.specs.declared.command.Telling.{Telling}
use Rattle.wf_top.specs.declared.command.Telling.TheVariants.{Whole, Summary}
use Rattle.wf_top.specs.declared.command.Task.{Task}
use Rattle.wf_top.specs.declared.command.Task.TheVariants as task
use Rattle.wf_top.specs.declared.answer.Answer.{Answer}
use Rattle.wf_top.specs.Plays.{play_text}
use Rattle.wf_top.specs.Summaries.{summary_text}

-- ---- words

abbrev pub command_named : List ℕ → Option Command
command_named word =
    if bytes_eq word (codes "check") then Some Check
    else (if bytes_eq word (codes "central") then Some Central
    else (if bytes_eq word (codes "split") then Some Split
    else (if bytes_eq word (codes "play") then Some (Play Whole) else None)))

-- a command, or the trail
abbrev pub task_named : List ℕ → Option Task
task_named word = if bytes_eq word (codes "trail") then Some task.Trail else option_map task.Run (command_named word)

-- the task that the words name: one word, and no other
abbrev pub task_of : List (List ℕ) → Option Task
task_of [] = None
task_of (word ∷ []) = task_named word
task_of (word ∷ other ∷ more) = None

-- 1 to 10 digits
abbrev pub is_number : List ℕ → Bool
is_number word = nat_le 1 (length word) && nat_le (length word) 10 && list_all is_digit word

-- the number that they write, if it is at most 4294967295
unfoldable pub written_number : List ℕ → Option ℕ
written_number word = if is_number word then number_up_to 4294967295 word else None

-- the number that stands behind this name: the words are the name and the number
abbrev pub number_behind : List ℕ → List (List ℕ) → Option ℕ
number_behind name [] = None
number_behind name (word ∷ []) = None
number_behind name (word ∷ number ∷ []) = if bytes_eq word name then written_number number else None
number_behind name (word ∷ number ∷ other ∷ more) = None

-- the number that input is to be generated from
abbrev pub gen_number : List (List ℕ) → Option ℕ
gen_number words = number_behind (codes "gen") words

-- the number of the input whose play is to be summed up
abbrev pub bulk_number : List (List ℕ) → Option ℕ
bulk_number words = number_behind (codes "bulk") words

-- ---- charts

abbrev pub chart_by : Chart → Option CheckFault → Result Chart (List ℕ)
chart_by chart None = Ok chart
chart_by chart (Some fault) = Err (check_fault_line chart fault)

abbrev pub chart_from : Result Chart ChartFault → Result Chart (List ℕ)
chart_from (Ok chart) = chart_by chart (first_fault chart)
chart_from (Err fault) = Err (text_fault_line fault)

-- the accepted chart that the text means, or the line of its first fault
unfoldable pub chart_in : List ℕ → Result Chart (List ℕ)
chart_in text = chart_from (chart_of text)

-- ---- answers

abbrev pub answer : Status → List ℕ → Answer
answer s text = record { status = s; text = text }

-- the text that a command writes, unless it is too long
abbrev pub run_answer : List ℕ → Answer
run_answer text = if nat_le (length text) max_report then answer status.Ok text else answer status.Limit too_long_report

-- the run of a script's lines, or the first line outside the grammar; for want of memory there is none
abbrev pub lines_answer : Chart → Result (List (ℕ × CentralLine)) ScriptFault → Answer
lines_answer chart (Ok lines) = run_answer (central_text chart lines)
lines_answer chart (Err (script.Refused line)) = answer status.ScriptRefused (script_line line)
lines_answer chart (Err script.NoMemory) = answer status.NoMemory []

-- the answer to a script, unless it has too many lines
unfoldable pub central_answer : Chart → List ℕ → Answer
central_answer chart script =
    if nat_le (length (lines_of script)) max_lines then lines_answer chart (script_of chart script) else answer status.Limit too_many_lines

-- ---- plays

-- what is told of the play of a script's lines, where its doubts turn out so
abbrev pub told_of_play : Telling → Chart → Outcomes → List (ℕ × Line) → Answer
told_of_play Whole chart outcomes lines = run_answer (play_text chart lines outcomes)
told_of_play (Summary n) chart outcomes lines = answer status.Ok (summary_text n chart lines outcomes)

-- the same, unless its messages come to too many bytes after one of the lines
unfoldable pub run_of_play : Telling → Chart → Outcomes → List (ℕ × Line) → Answer
run_of_play telling chart outcomes lines =
    if passes chart (first_machine chart) outcomes.at_lines lines
    then answer status.Limit (refusal (codes "limit sent"))
    else told_of_play telling chart outcomes lines

-- the same, or the first line outside the grammar; for want of memory there is none
abbrev pub play_lines_answer : Telling → Chart → Outcomes → Result (List (ℕ × Line)) ScriptFault → Answer
play_lines_answer telling chart outcomes (Ok lines) = run_of_play telling chart outcomes lines
play_lines_answer telling chart outcomes (Err (script.Refused line)) = answer status.ScriptRefused (script_line line)
play_lines_answer telling chart outcomes (Err script.NoMemory) = answer status.NoMemory []

-- the answer to a play's script, unless it has too many lines
unfoldable pub play_answer : Telling → Chart → Outcomes → List ℕ → Answer
play_answer telling chart outcomes script =
    if nat_le (length (lines_of script)) max_lines
    then play_lines_answer telling chart outcomes (play_of chart script)
    else answer status.Limit too_many_lines

-- ---- commands

-- what a command answers, where the doubts of a play turn out so
abbrev pub chart_answer : Command → Outcomes → List ℕ → Result Chart (List ℕ) → Answer
chart_answer command outcomes script (Err line) = answer status.ChartRefused line
chart_answer Check outcomes script (Ok chart) = answer status.Ok (accepted_line chart)
chart_answer Central outcomes script (Ok chart) = central_answer chart script
chart_answer Split outcomes script (Ok chart) = run_answer (split_text chart)
chart_answer (Play telling) outcomes script (Ok chart) = play_answer telling chart outcomes script

-- the answer to an input that isn't too long: its chart, then what the command does with it
unfoldable pub answer_within : Command → Outcomes → List ℕ → Answer
answer_within command outcomes input = chart_answer command outcomes (script_part input) (chart_in (chart_part input))

-- the answer of a command to an input
unfoldable pub answer_of : Command → Outcomes → List ℕ → Answer
answer_of command outcomes input =
    if nat_le (length input) max_input then answer_within command outcomes input else answer status.Limit (refusal (codes "limit input"))

-- A command may give this answer to an input. The outcome of a doubt is free, and only a play has doubts: status and text are
-- those of one choice of outcomes.
abbrev pub MayGive : Command → List ℕ → Answer → Type 0
MayGive command input a = (outcomes : Outcomes) × (answer_of command outcomes input ≡ a)
