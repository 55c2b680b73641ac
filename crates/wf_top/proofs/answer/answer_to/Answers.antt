use Rattle.std.proofs.Common.{◌≡◌, ◌∙◌, Err, length, arith, rules, sym, ap}
use Rattle.wf_scripts.specs.Lines.{chart_part, script_part}
use Rattle.wf_top.specs.Answers.{answer_within, chart_answer, chart_in}
use Rattle.wf_top.proofs.Parts.{chart_short, script_short}
use Rattle.wf_top.proofs.Plays.{no_outcomes}
use Rattle.wf_top.proofs.answer.answer_to.Goals as goal

pub chart_in-requires : goal.chart_in-requires
chart_in-requires c = omega (arith, ap length c.divide-parts.ensures.chart, chart_short c.args.input.now, c.requires)

pub chart_answer-requires : goal.chart_answer-requires
chart_answer-requires c = omega (arith, ap length c.divide-parts.ensures.script, script_short c.args.input.now, c.requires)

pub returns-in-Err : goal.returns-in-Err
unfolding answer_within
returns-in-Err c =
    let found : c.in_ok-text.field-0 ≡ chart_in c.divide-parts.result.chart.now = search rules in
    let none : Err c.in-Err.text ≡ chart_in (chart_part c.args.input.now) = sym c.in-Err.is ∙ found ∙ ap chart_in c.divide-parts.ensures.chart in
    (no_outcomes, c.new.ensures ∙ ap (chart_answer c.args.command no_outcomes (script_part c.args.input.now)) none)
