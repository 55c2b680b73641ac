-- The tokens of the canonical text of an expression are read as it.
use Rattle.std.proofs.Common.{◌≤◌, arith}
use Rattle.wf_model.specs.Limits.{max_open}
use Rattle.wf_model.specs.Accepted.{nodes}
use Rattle.wf_grammar.proofs.SpelledRead.{spelled_is_read}
use Rattle.wf_readback.proofs.Spans.{lexemes_of}
use Rattle.wf_readback.proofs.ExprSpans.{expr_spans}
use Rattle.wf_readback.proofs.Canon.{ExprIsRead}
use Rattle.wf_readback.proofs.ExprSpelled.{to_expr, expr_is_spelled}

pub expr_is_read : ExprIsRead
expr_is_read chart x i more named are known short few next none =
    let ws = lexemes_of (expr_spans chart x) in
    let open_few : nodes x ≤ max_open = omega (arith, few) in
    spelled_is_read i ws more x (to_expr i.names max_open ws x (expr_is_spelled chart i.names x max_open named are known short open_few)) few next none
