use Rattle.std.proofs.Common.{◌∙◌, ap, sym}
use Rattle.wf_audit.specs.declared.script.CentralLine.{CentralLine}
use Rattle.wf_central.specs.Kept.{Kept, central_of}
use Rattle.wf_central.specs.Standings.{standing_of}
use Rattle.wf_audit.specs.CentralText.{reply_of}
use Rattle.wf_audit.proofs.Sights.{step_is}
use Rattle.wf_audit.proofs.central.reply_to.Goals as goal

pub returns-in_ok-notes-in-Step-clause-reply : goal.returns-in_ok-notes-in-Step-clause-reply
unfolding reply_of central_of
returns-in_ok-notes-in-Step-clause-reply c =
    step_is c.args.checked.now c.args.run.now.central c.args.run.now.pending c.taken.result c.in_ok-notes-in-Step.notes
    (c.taken.ensures c.args.checked.now ∙ ap (λ (k : Kept). k.taken) c.state.ensures ∙ c.in_ok-notes-in-Step.ensures.taken) c.in_ok-notes-in-Step.ensures.notes
    ∙ ap (λ (line : CentralLine). reply_of c.args.checked.now (standing_of c.args.checked.now c.args.run.now) line) (sym c.in-Step.is)
