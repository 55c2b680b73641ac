use Rattle.std.proofs.Common.{◌++◌, ◌∙◌, ap, ap₂, sym}
use lib.Chars.{codes}
use Rattle.wf_model.specs.declared.expr.Expr.TheVariants.{Not, Neg, Bin}
use Rattle.wf_print.specs.Words.{op_word}
use Rattle.wf_print.specs.Expressions.{expr_text}
use Rattle.wf_print.proofs.Operators.{expr_text-Not, expr_text-Neg, expr_text-Bin}
use Rattle.wf_print.proofs.Written.{three_written, five_written}
use Rattle.wf_print.proofs.expressions.+append_expr.Goals as goal

pub returns-in_ok-append_expr-in-Not : goal.returns-in_ok-append_expr-in-Not
returns-in_ok-append_expr-in-Not t c =
    three_written c.append-in-Not-2.result c.args.text.now c.append-in-Not.new.self c.append_expr.new.text c.append-in-Not-2.new.self
    (codes "(not ") (expr_text c.args.chart.now c.get.result.now) (codes ")") (expr_text c.args.chart.now c.args.expr.now)
    c.in_ok-append-in-Not.ensures.ok c.in_ok-append_expr-in-Not.ensures
    (ap (expr_text c.args.chart.now) (c.in-Not.is ∙ ap Not (sym c.get.ensures)) ∙ expr_text-Not c.args.chart.now c.get.result.now)
    c.append-in-Not-2.ensures.ok

pub returns-in_ok-append_expr-in-Neg : goal.returns-in_ok-append_expr-in-Neg
returns-in_ok-append_expr-in-Neg t c =
    three_written c.append-in-Neg-2.result c.args.text.now c.append-in-Neg.new.self c.append_expr-in-Neg.new.text c.append-in-Neg-2.new.self
    (codes "(- ") (expr_text c.args.chart.now c.get-in-Neg.result.now) (codes ")") (expr_text c.args.chart.now c.args.expr.now)
    c.in_ok-append-in-Neg.ensures.ok c.in_ok-append_expr-in-Neg.ensures
    (ap (expr_text c.args.chart.now) (c.in-Neg.is ∙ ap Neg (sym c.get-in-Neg.ensures)) ∙ expr_text-Neg c.args.chart.now c.get-in-Neg.result.now)
    c.append-in-Neg-2.ensures.ok

pub returns-in_ok-append_expr-in-Bin-2 : goal.returns-in_ok-append_expr-in-Bin-2
returns-in_ok-append_expr-in-Bin-2 t c =
    five_written c.append-in-Bin-3.result c.args.text.now c.append-in-Bin.new.self c.append_expr-in-Bin.new.text c.append-in-Bin-2.new.self c.append_expr-in-Bin-2.new.text c.append-in-Bin-3.new.self
    (codes "(") (expr_text c.args.chart.now c.get-in-Bin.result.now) (op_word c.in-Bin.op) (expr_text c.args.chart.now c.get-in-Bin-2.result.now) (codes ")")
    (expr_text c.args.chart.now c.args.expr.now)
    c.in_ok-append-in-Bin.ensures.ok c.in_ok-append_expr-in-Bin.ensures
    (c.in_ok-append-in-Bin-2.ensures.ok ∙ ap (λ word. c.append_expr-in-Bin.new.text ++ word) c.op_word.ensures)
    c.in_ok-append_expr-in-Bin-2.ensures
    (ap (expr_text c.args.chart.now) (c.in-Bin.is ∙ ap₂ (λ x y. Bin c.in-Bin.op x y) (sym c.get-in-Bin.ensures) (sym c.get-in-Bin-2.ensures))
    ∙ expr_text-Bin c.args.chart.now c.in-Bin.op c.get-in-Bin.result.now c.get-in-Bin-2.result.now)
    c.append-in-Bin-3.ensures.ok
