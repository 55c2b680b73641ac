-- The input that is generated from a number.
use Rattle.std.specs.Prelude.{ℕ, ◌++◌, List}
use lib.Chars.{codes}
use Rattle.wf_print.specs.ChartText.{chart_text}
use Rattle.wf_gen.specs.Draws.{after}
use Rattle.wf_gen.specs.GenChart.{gen_chart}
use Rattle.wf_gen.specs.GenScript.{gen_script}

-- The canonical text of the chart, the divider, and the script. The chart takes four draws for each of its thirty transitions,
-- and the script those that follow.
unfoldable pub gen_text : ℕ → List ℕ
gen_text n = chart_text (gen_chart n) ++ codes "---\n" ++ gen_script (after 120 n)
