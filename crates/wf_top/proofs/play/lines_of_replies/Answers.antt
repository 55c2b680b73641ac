use Rattle.std.proofs.Common.{rules, ◌≡◌, List, ℕ, Result, Err, subst, sym, flat_map}
use Rattle.wf_audit.specs.declared.central.RunFault.{RunFault}
use Rattle.wf_audit.specs.CentralText.{GivesText}
use Rattle.wf_audit.proofs.Sights.{gives_fault}
use Rattle.wf_top.specs.Plays.{reply_line}
use Rattle.wf_top.proofs.Plays.{line_long}
use Rattle.wf_top.proofs.play.lines_of_replies.Goals as goal

pub returns-in_err-add_reply : goal.returns-in_err-add_reply
returns-in_err-add_reply c =
    let chart = c.args.checked.now in
    let whole = flat_map (reply_line chart) c.args.replies.now in
    let same : c.from_residual.result ≡ Err c.in_err-add_reply.field-0.0 = search rules in
    subst (λ (r : Result (List ℕ) RunFault). GivesText r whole) (sym same)
    (gives_fault c.in_err-add_reply.field-0.0 c.loop-number.text c.add_reply.new.text (reply_line chart c.loop-number-item.result) whole c.in_err-add_reply.ensures
    (line_long chart c.args.replies.now c.loop-number.number-index c.loop-number-item.result c.loop-number.text whole c.loop-number-test.true c.loop-number-item.is c.loop-number.invariant.text))
