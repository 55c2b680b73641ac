-- What is due, and that a run which writes it may end so.
use Rattle.std.proofs.Common.{◌≡◌, ◌⊎◌, ◌≤◌, ◌<◌, ◌∙◌, ℕ, ◌++◌, Bool, if◌then◌else◌, List, true, false, nat_le, length, take, Option, Some, None, Result, Ok, Err, IfSome, refl, sym, ap, subst, inl, inr, arith, append-nil}
use Rattle.std.proofs.lemmas.Bool.Decides.{nat_tests}
use Rattle.std.specs.Io.KnownBytes.{Appends, Consumes, IsAtEnd}
use lib.Chars.{codes}
use Rattle.wf_model.specs.Limits.{max_input, max_lines, max_report}
use Rattle.wf_model.specs.declared.status.Status.{Status}
use Rattle.wf_model.specs.declared.status.Status.TheVariants as status
use Rattle.wf_model.specs.Faults.{Rose}
use Rattle.wf_model.specs.declared.chart.Chart.{Chart}
use Rattle.wf_refusals.specs.Lines.{refusal}
use Rattle.wf_refusals.specs.Scripts.{too_many_lines, too_long_report}
use Rattle.wf_audit.specs.declared.script.CentralLine.{CentralLine}
use Rattle.wf_scripts.specs.declared.script.ScriptFault.{ScriptFault}
use Rattle.wf_scripts.specs.declared.script.ScriptFault.TheVariants as script
use Rattle.wf_scripts.specs.Lines.{lines_of, chart_part, script_part}
use Rattle.wf_audit.specs.Script.{script_of}
use Rattle.wf_audit.specs.CentralText.{central_text}
use Rattle.wf_partition.specs.SplitText.{split_text}
use Rattle.wf_scripts.proofs.Counted.{IsNamed}
use Rattle.wf_audit.proofs.Scripts.{script_named}
use Rattle.wf_machine.specs.declared.line.Line.{Line}
use Rattle.wf_machine.specs.Machine.{first_machine}
use Rattle.wf_machine.specs.Runs.{Outcomes}
use Rattle.wf_play.specs.Script.{play_of}
use Rattle.wf_world.specs.Sent.{passes}
use Rattle.wf_top.specs.declared.command.Command.{Command}
use Rattle.wf_top.specs.declared.command.Command.TheVariants.{Check, Central, Split, Play}
use Rattle.wf_top.specs.declared.command.Telling.{Telling}
use Rattle.wf_top.specs.declared.command.Telling.TheVariants.{Whole, Summary}
use Rattle.wf_top.specs.declared.answer.Answer.{Answer}
use Rattle.wf_top.specs.Answers.{answer, answer_of, answer_within, chart_answer, central_answer, lines_answer, play_answer, play_lines_answer, told_of_play, run_of_play, run_answer, chart_in, MayGive}
use Rattle.wf_top.specs.Plays.{play_text}
use Rattle.wf_disk.specs.Shelf.{ShelfTold}
use Rattle.wf_top.specs.declared.command.Task.{Task}
use Rattle.wf_top.specs.declared.command.Task.TheVariants as task
use Rattle.wf_top.specs.Trails.{MayTrailWithin, MayTrail}
use Rattle.wf_top.specs.Tasks.{HasStatus, MayCome}
use Rattle.wf_top.specs.Top.{Ends, Answers, IsSummed, IsDue, MayAnswer}
use Rattle.wf_top.proofs.Fits.{play_named}
use Rattle.wf_top.proofs.Plays.{no_outcomes}

-- the text was written whole, or a write failed behind a front part
abbrev pub IsFinished : Ends → Ends → Status → List ℕ → Status → Type 0
IsFinished before after s text result =
    ((result ≡ status.WriteFault) × Rose before.write_faults after.write_faults × ((n : ℕ) × (n ≤ length text) × Appends before.held after.held (take n text)))
    ⊎ ((result ≡ s) × (after.write_faults ≡ before.write_faults) × Appends before.held after.held text)

whole : (words : List (List ℕ)) (before after : Ends) (s : Status) (text : List ℕ) → IsDue words before after s text → Appends before.held after.held text
    → after.write_faults ≡ before.write_faults → MayAnswer words before after s
whole words before after status.Ok text due wrote same = record { text = text; due = due; written = wrote; faults = same }
whole words before after status.Words text due wrote same = record { text = text; due = due; written = wrote; faults = same }
whole words before after status.ChartRefused text due wrote same = record { text = text; due = due; written = wrote; faults = same }
whole words before after status.ReadFault text due wrote same = record { text = text; due = due; written = wrote; faults = same }
whole words before after status.Limit text due wrote same = record { text = text; due = due; written = wrote; faults = same }
whole words before after status.ScriptRefused text due wrote same = record { text = text; due = due; written = wrote; faults = same }
whole words before after status.WriteFault text due wrote same = absurd due
whole words before after status.NoMemory text due wrote same = absurd due
whole words before after status.Unbuilt text due wrote same = absurd due
whole words before after status.DiskFault text due wrote same = record { text = text; due = due; written = wrote; faults = same }
whole words before after status.Journals text due wrote same = record { text = text; due = due; written = wrote; faults = same }

-- who writes what is due may end so
pub finished : (words : List (List ℕ)) (before after : Ends) (s : Status) (text : List ℕ) (result : Status) → IsDue words before after s text
    → IsFinished before after s text result → MayAnswer words before after result
finished words before after s text result due (inl (is, rose, (n, within, wrote))) =
    subst (MayAnswer words before after) (sym is) (record { wanted = s; text = text; count = n; due = due; within = within; written = wrote; faults = rose })
finished words before after s text result due (inr (is, same, wrote)) = subst (MayAnswer words before after) (sym is) (whole words before after s text due wrote same)

-- the statuses of answers to inputs that aren't too long
abbrev pub IsAnswered : Status → Type 0
IsAnswered status.Ok = Unit {0}
IsAnswered status.ChartRefused = Unit {0}
IsAnswered status.ScriptRefused = Unit {0}
IsAnswered status.Limit = Unit {0}
IsAnswered _ = ⊥

either_answered : (few : Bool) (a b : Answer) → IsAnswered a.status → IsAnswered b.status → IsAnswered (if few then a else b).status
either_answered true a b first second = first
either_answered false a b first second = second

run_answered : (text : List ℕ) → IsAnswered (run_answer text).status
run_answered text = either_answered (nat_le (length text) max_report) (answer status.Ok text) (answer status.Limit too_long_report) tt tt

lines_answered : (chart : Chart) (found : Result (List (ℕ × CentralLine)) ScriptFault) → IsNamed found → IsAnswered (lines_answer chart found).status
lines_answered chart (Ok lines) named = run_answered (central_text chart lines)
lines_answered chart (Err (script.Refused line)) named = tt
lines_answered chart (Err script.NoMemory) named = absurd named

central_answered : (chart : Chart) (script : List ℕ) → IsAnswered (central_answer chart script).status
unfolding central_answer
central_answered chart script =
    either_answered (nat_le (length (lines_of script)) max_lines) (lines_answer chart (script_of chart script)) (answer status.Limit too_many_lines)
    (lines_answered chart (script_of chart script) (script_named chart script)) tt

told_answered : (telling : Telling) (chart : Chart) (outcomes : Outcomes) (lines : List (ℕ × Line)) → IsAnswered (told_of_play telling chart outcomes lines).status
told_answered Whole chart outcomes lines = run_answered (play_text chart lines outcomes)
told_answered (Summary n) chart outcomes lines = tt

play_run_answered : (telling : Telling) (chart : Chart) (outcomes : Outcomes) (lines : List (ℕ × Line)) → IsAnswered (run_of_play telling chart outcomes lines).status
unfolding run_of_play
play_run_answered telling chart outcomes lines =
    either_answered (passes chart (first_machine chart) outcomes.at_lines lines) (answer status.Limit (refusal (codes "limit sent"))) (told_of_play telling chart outcomes lines)
    tt (told_answered telling chart outcomes lines)

play_lines_answered : (telling : Telling) (chart : Chart) (outcomes : Outcomes) (found : Result (List (ℕ × Line)) ScriptFault) → IsNamed found
    → IsAnswered (play_lines_answer telling chart outcomes found).status
play_lines_answered telling chart outcomes (Ok lines) named = play_run_answered telling chart outcomes lines
play_lines_answered telling chart outcomes (Err (script.Refused line)) named = tt
play_lines_answered telling chart outcomes (Err script.NoMemory) named = absurd named

play_answered : (telling : Telling) (chart : Chart) (outcomes : Outcomes) (script : List ℕ) → IsAnswered (play_answer telling chart outcomes script).status
unfolding play_answer
play_answered telling chart outcomes script =
    either_answered (nat_le (length (lines_of script)) max_lines) (play_lines_answer telling chart outcomes (play_of chart script)) (answer status.Limit too_many_lines)
    (play_lines_answered telling chart outcomes (play_of chart script) (play_named chart script)) tt

chart_answered : (command : Command) (outcomes : Outcomes) (script : List ℕ) (found : Result Chart (List ℕ))
    → IsAnswered (chart_answer command outcomes script found).status
chart_answered command outcomes script (Err line) = tt
chart_answered Check outcomes script (Ok chart) = tt
chart_answered Central outcomes script (Ok chart) = central_answered chart script
chart_answered Split outcomes script (Ok chart) = run_answered (split_text chart)
chart_answered (Play telling) outcomes script (Ok chart) = play_answered telling chart outcomes script

within_answered : (command : Command) (outcomes : Outcomes) (input : List ℕ) → IsAnswered (answer_within command outcomes input).status
unfolding answer_within
within_answered command outcomes input = chart_answered command outcomes (script_part input) (chart_in (chart_part input))

-- a command may end with such a status, and asks for no disk
run_status : (command : Command) (s : Status) (faults : ℕ) → IsAnswered s → HasStatus (task.Run command) s faults faults
run_status command status.Ok faults is = refl
run_status command status.ChartRefused faults is = tt
run_status command status.ScriptRefused faults is = tt
run_status command status.Limit faults is = tt
run_status command status.Words faults is = absurd is
run_status command status.ReadFault faults is = absurd is
run_status command status.WriteFault faults is = absurd is
run_status command status.NoMemory faults is = absurd is
run_status command status.Unbuilt faults is = absurd is
run_status command status.DiskFault faults is = absurd is
run_status command status.Journals faults is = absurd is

pub command_status : (command : Command) (outcomes : Outcomes) (input : List ℕ) (faults : ℕ) (a : Answer) → a ≡ answer_within command outcomes input
    → HasStatus (task.Run command) a.status faults faults
command_status command outcomes input faults a is =
    run_status command a.status faults (subst (λ (x : Answer). IsAnswered x.status) (sym is) (within_answered command outcomes input))

-- what comes of a task is due
pub due_answer : (words : List (List ℕ)) (before after : Ends) (s : Status) (text : List ℕ) → Answers words before after (answer s text)
    → IsAtEnd after.left → IsDue words before after s text
due_answer words before after status.Ok text a end = inl (inl (a, end))
due_answer words before after status.ChartRefused text a end = inl (a, end)
due_answer words before after status.ScriptRefused text a end = inl (a, end)
due_answer words before after status.DiskFault text a end = (a, end)
due_answer words before after status.Limit text a end = inl (inl (a, end))
due_answer words before after status.Journals text a end = (a, end)
due_answer words before after status.Words text a end = absurd a.status
due_answer words before after status.ReadFault text a end = absurd a.status
due_answer words before after status.WriteFault text a end = absurd a.status
due_answer words before after status.NoMemory text a end = absurd a.status
due_answer words before after status.Unbuilt text a end = absurd a.status

-- and so is a summary
pub due_summary : (words : List (List ℕ)) (before after : Ends) (command : Command) (faults : ℕ) (s : Status) (text : List ℕ) → HasStatus (task.Run command) s faults faults
    → IsSummed words before after (answer s text) → IsDue words before after s text
due_summary words before after command faults status.Ok text is a = inl (inr a)
due_summary words before after command faults status.ChartRefused text is a = inr a
due_summary words before after command faults status.ScriptRefused text is a = inr a
due_summary words before after command faults status.Limit text is a = inl (inr a)
due_summary words before after command faults status.DiskFault text is a = absurd is
due_summary words before after command faults status.Journals text is a = absurd is
due_summary words before after command faults status.Words text is a = absurd is
due_summary words before after command faults status.ReadFault text is a = absurd is
due_summary words before after command faults status.WriteFault text is a = absurd is
due_summary words before after command faults status.NoMemory text is a = absurd is
due_summary words before after command faults status.Unbuilt text is a = absurd is

-- ONE INPUT

pub short_answer : (command : Command) (outcomes : Outcomes) (input : List ℕ) (a : Answer) → length input ≤ max_input → a ≡ answer_within command outcomes input
    → MayGive command input a
unfolding answer_of
short_answer command outcomes input a h is = let short : nat_le (length input) max_input ≡ true = grind (arith, nat_tests) in (outcomes, rw short (sym is))

pub short_trail : (shelf : ShelfTold) (input : List ℕ) (a : Answer) → length input ≤ max_input → MayTrailWithin shelf input a → MayTrail shelf input a
short_trail shelf input a h may = let short : nat_le (length input) max_input ≡ true = grind (arith, nat_tests, h) in rw short may

abbrev too_long : Answer
too_long = answer status.Limit (refusal (codes "limit input"))

pub long_answer : (command : Command) (input : List ℕ) → max_input < length input → MayGive command input too_long
unfolding answer_of
long_answer command input h = let long : nat_le (length input) max_input ≡ false = grind (arith, nat_tests) in (no_outcomes, rw long refl)

long_trail : (shelf : ShelfTold) (input : List ℕ) → max_input < length input → MayTrail shelf input too_long
long_trail shelf input h = let long : nat_le (length input) max_input ≡ false = grind (arith, nat_tests, h) in rw long refl

long_come : (t : Task) (shelf : ShelfTold) (input : List ℕ) → max_input < length input → MayCome t shelf input too_long
long_come (task.Run command) shelf input h = long_answer command input h
long_come task.Trail shelf input h = long_trail shelf input h

-- ALL THAT WAS LEFT

-- more bytes than may be
pub long_left : (t : Task) (shelf : ShelfTold) (left : Option (List ℕ)) → IfSome left (λ bytes. max_input < length bytes)
    → IfSome left (λ input. MayCome t shelf input (answer status.Limit (refusal (codes "limit input"))))
long_left t shelf None h = tt
long_left t shelf (Some input) h = long_come t shelf input h

-- what comes of the bytes that were read comes of all that was left
pub read_left : (t : Task) (shelf : ShelfTold) (left after : Option (List ℕ)) (bytes : List ℕ) (a : Answer) → Consumes left after bytes → IsAtEnd after
    → MayCome t shelf bytes a → IfSome left (λ input. MayCome t shelf input a)
read_left t shelf None after bytes a taken end came = tt
read_left t shelf (Some input) None bytes a taken end came = absurd taken
read_left t shelf (Some input) (Some rest) bytes a taken end came =
    subst (λ (i : List ℕ). MayCome t shelf i a) (sym (taken ∙ ap (λ (l : List ℕ). bytes ++ l) end ∙ append-nil bytes)) came
