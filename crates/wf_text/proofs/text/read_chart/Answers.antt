use Rattle.std.proofs.Common.{rules, ◌≡◌, List, [], Ok, Err, sym, ap, ◌∙◌}
use Rattle.wf_lex.specs.declared.token.Token.{Token}
use Rattle.wf_lex.specs.Lex.{tokens_of}
use Rattle.wf_cursor.specs.Fault.{fault_of}
use Rattle.wf_text.specs.ChartFaults.{placed_fault}
use Rattle.wf_text.proofs.Given.{read_ok, read_err, cut_err}
use Rattle.wf_text.proofs.text.read_chart.Goals as goal

pub returns-in-Ok-chart : goal.returns-in-Ok-chart
returns-in-Ok-chart c =
    let cut : tokens_of c.args.text.now ≡ Ok c.as_slice.result.now = search rules in
    read_ok c.args.text.now c.as_slice.result.now c.in-Ok-chart.chart cut c.in-Ok-chart.ensures

pub returns-in-Ok : goal.returns-in-Ok
returns-in-Ok c =
    let cut : tokens_of c.args.text.now ≡ Ok c.as_slice.result.now = search rules in
    let same : c.as_slice-in-Err-chart.result.now ≡ c.as_slice.result.now = c.as_slice-in-Err-chart.ensures ∙ sym c.as_slice.ensures in
    let is : c.placed_fault.result ≡ placed_fault c.args.text.now c.as_slice.result.now c.in-Err-chart.fault =
    c.placed_fault.ensures ∙ ap (λ (tokens : List Token). placed_fault c.args.text.now tokens c.in-Err-chart.fault) same in
    λ other. read_err c.args.text.now c.as_slice.result.now c.in-Err-chart.fault cut c.in-Err-chart.ensures (λ want. other (is ∙ want)) ∙ ap Err (sym is)

pub returns : goal.returns
returns c =
    let is : c.placed_fault-in-Err.result ≡ placed_fault c.args.text.now [] (fault_of c.in-Err.fault) =
    c.placed_fault-in-Err.ensures ∙ ap (placed_fault c.args.text.now []) c.into.ensures in
    λ other. cut_err c.args.text.now c.in-Err.fault c.in-Err.ensures.exact (λ want. other (is ∙ want)) ∙ ap Err (sym is)
