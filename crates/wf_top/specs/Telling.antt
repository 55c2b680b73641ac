-- Inner. What is told of a play by what came of it.
use Rattle.std.specs.Prelude.{ℕ, List}
use Rattle.wf_model.specs.declared.chart.Chart.{Chart}
use Rattle.wf_model.specs.declared.status.Status.TheVariants as status
use Rattle.wf_machine.specs.declared.ending.Ending.{Ending}
use Rattle.wf_machine.specs.declared.reply.Reply.{Reply}
use Rattle.wf_machine.specs.Machine.{CountingMachine}
use Rattle.wf_top.specs.declared.answer.Answer.{Answer}
use Rattle.wf_top.specs.declared.command.Telling.{Telling}
use Rattle.wf_top.specs.declared.command.Telling.TheVariants.{Whole, Summary}
use Rattle.wf_top.specs.Answers.{answer, run_answer}
use Rattle.wf_top.specs.Plays.{told_text}
use Rattle.wf_top.specs.Summaries.{summary_line}

-- by the replies, the ending, and the machine after it
abbrev pub told_by : Telling → Chart → List (ℕ × Reply) → Ending → CountingMachine → Answer
told_by Whole chart replies end m = run_answer (told_text chart replies end)
told_by (Summary n) chart replies end m = answer status.Ok (summary_line n chart m)
