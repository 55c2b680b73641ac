-- A world that is driven over a script answers as a play does.
use Rattle.std.proofs.Common.{◌≡◌, ◌≤◌, ◌<◌, ◌∙◌, ◌||◌, ℕ, ◌+◌, ◌++◌, nat_le, Bool, true, false, List, [], ◌∷◌, length, flat_map, drop, get_or, Result, Ok, Err, IfOk, refl, sym, ap, ap₂, arith, length-append}
use Rattle.std.proofs.lemmas.Bool.Decides.{nat_tests}
use Rattle.std.proofs.lemmas.List.{at_drop_more}
use lib.Chars.{codes}
use Rattle.wf_model.specs.Limits.{max_lines}
use Rattle.wf_model.specs.declared.chart.Chart.{Chart}
use Rattle.wf_model.specs.declared.status.Status.TheVariants as status
use Rattle.wf_refusals.specs.Lines.{refusal}
use Rattle.wf_refusals.specs.Scripts.{script_line, too_many_lines}
use Rattle.wf_scripts.specs.declared.script.ScriptFault.TheVariants as scripts
use Rattle.wf_scripts.specs.Lines.{lines_of}
use Rattle.wf_play.specs.Script.{play_of}
use Rattle.wf_audit.specs.declared.central.RunFault.{RunFault}
use Rattle.wf_audit.specs.declared.central.RunFault.TheVariants as faults
use Rattle.wf_audit.specs.CentralText.{GivesText}
use Rattle.wf_machine.specs.declared.ending.Ending.{Ending}
use Rattle.wf_machine.specs.declared.line.Line.{Line}
use Rattle.wf_machine.specs.declared.reply.Reply.{Reply}
use Rattle.wf_machine.specs.Machine.{CountingMachine, first_machine, merged_places}
use Rattle.wf_machine.specs.Lines.{Acted, act}
use Rattle.wf_machine.specs.Runs.{Outcomes, replies_to, after_lines, closed, ending}
use Rattle.wf_drive.specs.Driven.{Runs, MayRefuse}
use Rattle.wf_world.specs.declared.fault.ActFault.TheVariants as stops
use Rattle.wf_world.specs.Sent.{is_over, passes}
use Rattle.wf_world.specs.States as states
use Rattle.wf_world.specs.States.{WorldState, Acts, Finishes, MayBreak, first_state}
use Rattle.wf_world.proofs.Plays.{refusals_pass}
use Rattle.wf_top.specs.declared.answer.Answer.{Answer}
use Rattle.wf_top.specs.declared.command.Telling.{Telling}
use Rattle.wf_top.specs.declared.command.Telling.TheVariants.{Whole, Summary}
use Rattle.wf_top.specs.Answers.{answer, run_answer, told_of_play, run_of_play, play_lines_answer, play_answer}
use Rattle.wf_top.specs.Plays.{reply_line, told_text, play_text}
use Rattle.wf_top.specs.Summaries.{summary_line, summary_text}
use Rattle.wf_top.specs.Telling.{told_by}

-- no line changes the chart
keeps_chart : (lines : List (ℕ × Line)) (replies : List (ℕ × Reply)) (s t : WorldState) → Runs Acts s lines replies t → t.chart ≡ s.chart
keeps_chart [] [] s t run = ap (λ (w : WorldState). w.chart) (sym run)
keeps_chart [] (r ∷ rs) s t run = absurd run
keeps_chart (x ∷ xs) [] s t run = absurd run
keeps_chart (x ∷ xs) (r ∷ rs) s t run = keeps_chart xs rs run.1.0 t run.1.2 ∙ run.1.1.chart

-- the chart of the world at the end is the one that it was started with
pub kept_chart : (chart : Chart) (lines : List (ℕ × Line)) (replies : List (ℕ × Reply)) (e : Ending) (t u : WorldState) → Runs Acts (first_state chart) lines replies t
    → Finishes t e u → u.chart ≡ chart
kept_chart chart lines replies e t u run end = end.chart ∙ keeps_chart lines replies (first_state chart) t run

-- these outcomes lead from a state over the lines to these replies and this state, and never to too many bytes
record Led (s : WorldState) (lines : List (ℕ × Line)) (given : List (ℕ × Reply)) (t : WorldState) (bs : List Bool) : Type 0 where
  replies : given ≡ replies_to s.chart s.machine bs lines
  machine : t.machine ≡ after_lines s.chart s.machine bs lines
  few : passes s.chart s.machine bs lines ≡ false

both_false : (a b : Bool) → a ≡ false → b ≡ false → (a || b) ≡ false
both_false a b e f = ap₂ (λ (x y : Bool). x || y) e f

led : (lines : List (ℕ × Line)) (replies : List (ℕ × Reply)) (s t : WorldState) → Runs Acts s lines replies t → (bs : List Bool) × Led s lines replies t bs
led [] [] s t run = ([], record { replies = refl; machine = ap (λ (w : WorldState). w.machine) (sym run); few = refl })
led [] (r ∷ rs) s t run = absurd run
led (x ∷ xs) [] s t run = absurd run
led (x ∷ xs) (r ∷ rs) s t run =
    let u = run.1.0 in
    let did = run.1.1 in
    let stands = did.machine.0 in
    let same = did.machine.1 in
    let rest = led xs rs u t run.1.2 in
    let reply : (act s.chart s.machine stands x.1).reply ≡ r.1 = ap (λ (d : Acted). d.reply) same in
    let after : (act s.chart s.machine stands x.1).after ≡ u.machine = ap (λ (d : Acted). d.after) same in
    let here : u.machine ≡ (act s.chart s.machine stands x.1).after = sym after in (
      stands ∷ rest.0,
      record {
        replies = ap₂ (λ (p : ℕ × Reply) (q : List (ℕ × Reply)). p ∷ q) (ap₂ (λ (n : ℕ) (y : Reply). (n, y)) (sym run.0) (sym reply))
            (rest.1.replies ∙ ap₂ (λ (chart : Chart) (m : CountingMachine). replies_to chart m rest.0 xs) did.chart here);
        machine = rest.1.machine ∙ ap₂ (λ (chart : Chart) (m : CountingMachine). after_lines chart m rest.0 xs) did.chart here;
        few = both_false _ _
            (ap₂ (λ (chart : Chart) (m : CountingMachine). is_over chart m) (sym did.chart) after ∙ did.few)
            (ap₂ (λ (chart : Chart) (m : CountingMachine). passes chart m rest.0 xs) (sym did.chart) after ∙ rest.1.few);
      },
    )

few_answer : (telling : Telling) (chart : Chart) (lines : List (ℕ × Line)) (o : Outcomes) → passes chart (first_machine chart) o.at_lines lines ≡ false
    → told_of_play telling chart o lines ≡ run_of_play telling chart o lines
unfolding run_of_play
few_answer telling chart lines o few = rw few refl

-- what came of a play, told, is what is told of the play
told_is : (telling : Telling) (chart : Chart) (lines : List (ℕ × Line)) (replies : List (ℕ × Reply)) (e : Ending) (m : CountingMachine) (o : Outcomes)
    → replies ≡ replies_to chart (first_machine chart) o.at_lines lines → e ≡ ending chart (after_lines chart (first_machine chart) o.at_lines lines) o.at_end
    → m ≡ closed (after_lines chart (first_machine chart) o.at_lines lines) o.at_end → told_by telling chart replies e m ≡ told_of_play telling chart o lines
unfolding play_text summary_text
told_is Whole chart lines replies e m o replies_are ending_is machine_is = ap run_answer (ap₂ (told_text chart) replies_are ending_is)
told_is (Summary n) chart lines replies e m o replies_are ending_is machine_is = ap (λ (k : CountingMachine). answer status.Ok (summary_line n chart k)) machine_is

-- so what came of a run, told, is the answer of a play
pub ran : (telling : Telling) (chart : Chart) (lines : List (ℕ × Line)) (replies : List (ℕ × Reply)) (e : Ending) (t u : WorldState) → Runs Acts (first_state chart) lines replies t
    → Finishes t e u → (o : Outcomes) × (told_by telling chart replies e u.machine ≡ run_of_play telling chart o lines)
ran telling chart lines replies e t u run end =
    let found = led lines replies (first_state chart) t run in
    let o : Outcomes = record { at_lines = found.0; at_end = end.machine.0 } in
    let here : t.machine ≡ after_lines chart (first_machine chart) found.0 lines = found.1.machine in
    let kept : t.chart ≡ chart = keeps_chart lines replies (first_state chart) t run in
    let ended : e ≡ ending chart (after_lines chart (first_machine chart) found.0 lines) end.machine.0 =
    sym end.machine.1 ∙ ap₂ (λ (k : Chart) (m : CountingMachine). ending k m end.machine.0) kept here in
    let machine : u.machine ≡ closed (after_lines chart (first_machine chart) found.0 lines) end.machine.0 =
    sym end.machine.2 ∙ ap (λ (m : CountingMachine). closed m end.machine.0) here in
    (o, told_is telling chart lines replies e u.machine o found.1.replies ended machine ∙ few_answer telling chart lines o found.1.few)

-- the merged list of an ending is that of the machine after it
pub merged_is : (t u : WorldState) (e : Ending) → Finishes t e u → e.merged ≡ merged_places u.machine
unfolding Rattle.wf_machine.specs.Runs.ending
merged_is t u e end = ap (λ (x : Ending). x.merged) (sym end.machine.1) ∙ ap merged_places end.machine.2

over_answer : (telling : Telling) (chart : Chart) (lines : List (ℕ × Line)) (o : Outcomes) → passes chart (first_machine chart) o.at_lines lines ≡ true
    → answer status.Limit (refusal (codes "limit sent")) ≡ run_of_play telling chart o lines
unfolding run_of_play
over_answer telling chart lines o over = rw over refl

-- a run that is stopped by its messages has the answer of a play
pub stopped : (telling : Telling) (chart : Chart) (lines : List (ℕ × Line)) → MayRefuse {R = Reply} Acts states.MayRefuse MayBreak (first_state chart) lines stops.SentLimit
    → (o : Outcomes) × (answer status.Limit (refusal (codes "limit sent")) ≡ run_of_play telling chart o lines)
stopped telling chart lines refused =
    let found = refusals_pass (first_state chart) lines refused in
    let o : Outcomes = record { at_lines = found.0; at_end = [] } in
    (o, over_answer telling chart lines o found.1)

-- THE TEXT OF REPLIES

-- the lines of the replies from one on
line_more : (chart : Chart) (replies : List (ℕ × Reply)) (i : ℕ) (reply : ℕ × Reply) → i < length replies → reply ≡ get_or replies i reply
    → flat_map (reply_line chart) (drop i replies) ≡ reply_line chart reply ++ flat_map (reply_line chart) (drop (i + 1) replies)
line_more chart replies i reply lt is =
    at_drop_more (flat_map (reply_line chart)) replies i reply lt ∙ ap (λ (x : ℕ × Reply). flat_map (reply_line chart) (x ∷ drop (i + 1) replies)) (sym is)

-- a text with the line of a reply is no longer than the whole
pub line_long : (chart : Chart) (replies : List (ℕ × Reply)) (i : ℕ) (reply : ℕ × Reply) (old whole : List ℕ) → i < length replies → reply ≡ get_or replies i reply
    → old ++ flat_map (reply_line chart) (drop i replies) ≡ whole → length old + length (reply_line chart reply) ≤ length whole
line_long chart replies i reply old whole lt is before =
    let rest = flat_map (reply_line chart) (drop (i + 1) replies) in
    omega (arith, ap length before, length-append old (flat_map (reply_line chart) (drop i replies)), ap length (line_more chart replies i reply lt is), length-append (reply_line chart reply) rest)

-- a text that is too long for its first part is too long
pub longer : (fault : RunFault) (first rest : List ℕ) → GivesText (Err fault) first → GivesText (Err fault) (first ++ rest)
longer faults.TooLong first rest long = omega (arith, long, length-append first rest)
longer faults.NoMemory first rest long = tt

-- ANSWERS

-- no outcome of a doubt is named
pub no_outcomes : Outcomes
no_outcomes = record { at_lines = []; at_end = [] }

-- what an answer leads to
pub if_ok : {A E : Type 0} {P Q : A → Type 0} (r : Result A E) → ((x : A) → P x → Q x) → IfOk r P → IfOk r Q
if_ok (Ok x) f p = f x p
if_ok (Err e) f p = tt

pub refused : (telling : Telling) (chart : Chart) (text : List ℕ) (line : ℕ) → play_of chart text ≡ Err (scripts.Refused line)
    → (o : Outcomes) × (answer status.ScriptRefused (script_line line) ≡ play_lines_answer telling chart o (play_of chart text))
refused telling chart text line is = (no_outcomes, ap (play_lines_answer telling chart no_outcomes) (sym is))

pub lines_played : (telling : Telling) (chart : Chart) (text : List ℕ) (lines : List (ℕ × Line)) (a : Answer) → play_of chart text ≡ Ok lines → (o : Outcomes) × (a ≡ run_of_play telling chart o lines)
    → (o : Outcomes) × (a ≡ play_lines_answer telling chart o (play_of chart text))
lines_played telling chart text lines a is (o, same) = (o, same ∙ ap (play_lines_answer telling chart o) (sym is))

pub few_lines : (telling : Telling) (chart : Chart) (text : List ℕ) (a : Answer) → length (lines_of text) ≤ max_lines → (o : Outcomes) × (a ≡ play_lines_answer telling chart o (play_of chart text))
    → (o : Outcomes) × (a ≡ play_answer telling chart o text)
unfolding play_answer
few_lines telling chart text a few (o, same) = let short : nat_le (length (lines_of text)) max_lines ≡ true = grind (arith, nat_tests, few) in (o, rw short same)

pub many_lines : (telling : Telling) (chart : Chart) (text : List ℕ) → max_lines < length (lines_of text) → (o : Outcomes) × (answer status.Limit too_many_lines ≡ play_answer telling chart o text)
unfolding play_answer
many_lines telling chart text many = let long : nat_le (length (lines_of text)) max_lines ≡ false = grind (arith, nat_tests, many) in (no_outcomes, rw long refl)
