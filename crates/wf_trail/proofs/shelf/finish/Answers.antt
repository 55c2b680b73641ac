use Rattle.std.proofs.Common.{◌≡◌, ◌<◌, ◌≤◌, length, rules, arith}
use Rattle.std.specs.Prelude.{Err}
use Rattle.wf_model.specs.Limits.{max_report}
use Rattle.wf_trail.proofs.Finishing.{text_failed, too_long, disk_lost, all_stands}
use Rattle.wf_trail.proofs.shelf.finish.Goals as goal

pub returns-in_err-text : goal.returns-in_err-text
returns-in_err-text c =
    let is : c.from_residual.result ≡ Err c.in_err-text.field-0.0 = search rules in
    let done = text_failed c.args.trail c.from_residual.result c.in_err-text.field-0.0 c.in_err-text.was is in
    record { text = done.text; cause = done.cause; ok = done.ok; unit = done.unit }

pub returns-then-len-gt-MAX_REPORT : goal.returns-then-len-gt-MAX_REPORT
returns-then-len-gt-MAX_REPORT c =
    let long : max_report < length c.in_ok-text.text = omega (arith, c.len.ensures, c.if-len-gt-MAX_REPORT.true) in
    let done = too_long c.args.trail c.in_ok-text.text c.in_ok-text.was long in
    record { text = done.text; cause = done.cause; ok = done.ok; unit = done.unit }

pub returns-in-Some : goal.returns-in-Some
returns-in-Some c =
    let done = disk_lost c.args.trail c.in-Some.unit c.in-Some.is in
    record { text = done.text; cause = done.cause; ok = done.ok; unit = done.unit }

pub returns-in-None : goal.returns-in-None
returns-in-None c =
    let short : length c.in_ok-text.text ≤ max_report = omega (arith, c.len.ensures, c.if-len-gt-MAX_REPORT.false) in
    let done = all_stands c.args.trail c.in_ok-text.text c.in_ok-text.was short c.in-None.is in
    record { text = done.text; cause = done.cause; ok = done.ok; unit = done.unit }
