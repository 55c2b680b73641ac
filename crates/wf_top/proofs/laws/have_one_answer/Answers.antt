use Rattle.std.proofs.Common.{◌≡◌, ℕ, false, true≢false, List, Result, Ok, Err, refl}
use Rattle.wf_model.specs.declared.chart.Chart.{Chart}
use Rattle.wf_scripts.specs.Lines.{chart_part, script_part}
use Rattle.wf_machine.specs.Runs.{Outcomes}
use Rattle.wf_top.specs.declared.command.Command.{Command}
use Rattle.wf_top.specs.declared.command.Command.TheVariants.{Check, Central, Split, Play}
use Rattle.wf_top.specs.Laws.{plays}
use Rattle.wf_top.specs.Answers.{answer_of, answer_within, chart_answer, chart_in}
use Rattle.wf_top.proofs.laws.have_one_answer.Goals as goal

-- nor does its answer to a chart and a script
one_answer : (command : Command) (script : List ℕ) (found : Result Chart (List ℕ)) (o p : Outcomes) → plays command ≡ false
    → chart_answer command o script found ≡ chart_answer command p script found
one_answer command script (Err line) o p other = refl
one_answer Check script (Ok chart) o p other = refl
one_answer Central script (Ok chart) o p other = refl
one_answer Split script (Ok chart) o p other = refl
one_answer (Play telling) script (Ok chart) o p other = absurd (true≢false other)

pub returns : goal.returns
unfolding answer_of answer_within
returns c = λ command input o p other. rw (one_answer command (script_part input) (chart_in (chart_part input)) o p other) refl
