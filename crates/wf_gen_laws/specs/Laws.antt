-- Of the laws. How the generated input is divided, read and played.
use Rattle.std.specs.Prelude.{ℕ, ◌≡◌}
use Rattle.wf_print.specs.ChartText.{chart_text}
use Rattle.wf_text.specs.Text.{Means}
use Rattle.wf_scripts.specs.Lines.{chart_part, script_part}
use Rattle.wf_gen.specs.Draws.{after}
use Rattle.wf_gen.specs.GenChart.{gen_chart}
use Rattle.wf_gen.specs.GenScript.{gen_script}
use Rattle.wf_gen.specs.GenText.{gen_text}
use Rattle.wf_machine.specs.Runs.{Outcomes}
use Rattle.wf_top.specs.declared.command.Command.TheVariants.{Play}
use Rattle.wf_top.specs.declared.command.Telling.TheVariants.{Summary}
use Rattle.wf_top.specs.Answers.{answer_of}

-- the chart's text stands before the divider, and the script behind it
abbrev pub GeneratedIsDivided : Type 0
GeneratedIsDivided = (n : ℕ) → (chart_part (gen_text n) ≡ chart_text (gen_chart n)) × (script_part (gen_text n) ≡ gen_script (after 120 n))

-- what stands before the divider means the generated chart
abbrev pub GeneratedIsRead : Type 0
GeneratedIsRead = (n : ℕ) → Means (chart_part (gen_text n)) (gen_chart n)

-- the summary of a play of generated input is one, whatever outcomes of doubts are named
abbrev pub BulksHaveOneAnswer : Type 0
BulksHaveOneAnswer = (n : ℕ) (o p : Outcomes) → answer_of (Play (Summary n)) o (gen_text n) ≡ answer_of (Play (Summary n)) p (gen_text n)
