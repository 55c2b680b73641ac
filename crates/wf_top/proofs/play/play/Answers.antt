use Rattle.std.proofs.Common.{◌≡◌, ◌<◌, ◌∙◌, length, arith, rules, ap}
use Rattle.wf_model.specs.Limits.{max_lines}
use Rattle.wf_model.specs.declared.status.Status.TheVariants as status
use Rattle.wf_refusals.specs.Scripts.{too_many_lines}
use Rattle.wf_scripts.specs.Lines.{lines_of}
use Rattle.wf_top.specs.Answers.{answer}
use Rattle.wf_top.proofs.Plays.{many_lines}
use Rattle.wf_top.proofs.play.play.Goals as goal

pub returns-in_ok-too_many_lines : goal.returns-in_ok-too_many_lines
returns-in_ok-too_many_lines c =
    let many : max_lines < length (lines_of c.args.script.now) = omega (arith, c.line_count.ensures, c.if-line_count-le-MAX_LINES.false) in
    let text : c.in_ok-too_many_lines.field-0 ≡ too_many_lines = search rules in
    let found = many_lines c.args.telling c.args.checked c.args.script.now many in
    (found.0, c.new.ensures ∙ ap (answer status.Limit) text ∙ found.1)
