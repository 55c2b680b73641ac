use Rattle.std.proofs.Common.{◌∙◌, Ok, sym, ap}
use Rattle.wf_top.specs.declared.command.Command.{Command}
use Rattle.wf_top.specs.Answers.{chart_answer}
use Rattle.wf_top.proofs.Plays.{no_outcomes, if_ok}
use Rattle.wf_top.proofs.answer.chart_answer.Goals as goal

pub returns-in-Check : goal.returns-in-Check
returns-in-Check c =
    let asked = ap (λ (k : Command). chart_answer k no_outcomes c.args.script.now (Ok c.args.chart)) (sym c.in-Check.is) in
    if_ok c.check_answer.result (λ a is. (no_outcomes, is ∙ asked)) c.check_answer.ensures

pub returns-in-Central : goal.returns-in-Central
returns-in-Central c =
    let asked = ap (λ (k : Command). chart_answer k no_outcomes c.args.script.now (Ok c.args.chart)) (sym c.in-Central.is) in
    if_ok c.central.result (λ a is. (no_outcomes, is ∙ asked)) c.central.ensures

pub returns-in-Split : goal.returns-in-Split
returns-in-Split c =
    let asked = ap (λ (k : Command). chart_answer k no_outcomes c.args.script.now (Ok c.args.chart)) (sym c.in-Split.is) in
    if_ok c.split.result (λ a is. (no_outcomes, is ∙ asked)) c.split.ensures
