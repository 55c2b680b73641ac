use Rattle.std.proofs.Common.{◌≡◌, ◌∙◌, Err, rules, ap}
use Rattle.wf_model.specs.declared.status.Status.TheVariants as status
use Rattle.wf_refusals.specs.Scripts.{script_line}
use Rattle.wf_scripts.specs.declared.script.ScriptFault.TheVariants as scripts
use Rattle.wf_play.specs.Script.{play_of}
use Rattle.wf_top.specs.Answers.{answer}
use Rattle.wf_top.proofs.Fits.{play_fits}
use Rattle.wf_top.proofs.Plays.{refused}
use Rattle.wf_top.proofs.play.answer_lines.Goals as goal

pub run-requires : goal.run-requires
run-requires c = play_fits c.args.checked c.args.script.now c.in-Ok.lines c.in-Ok.ensures c.requires.few

pub returns-in-Err-Refused : goal.returns-in-Err-Refused
returns-in-Err-Refused c =
    let line = c.in-Err-Refused.line in
    let is : play_of c.args.checked c.args.script.now ≡ Err (scripts.Refused c.in-Err-Refused.line) = search rules in
    let text : c.in_ok-script_line-in-Err-Refused.field-0 ≡ script_line c.in-Err-Refused.line = search rules in
    let found = refused c.args.telling c.args.checked c.args.script.now line is in
    (found.0, c.new.ensures ∙ ap (answer status.ScriptRefused) text ∙ found.1)
