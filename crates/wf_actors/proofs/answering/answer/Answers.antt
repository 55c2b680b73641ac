use Rattle.std.proofs.Common.{sym, ap, ◌∙◌, subst}
use Rattle.std.specs.Prelude.{IfOk, IfErr, IsErr}
use Rattle.wf_actors.specs.Stops.{IsStopOf}
use Rattle.wf_actors.specs.Answering.{said_by, IsSaid}
use Rattle.wf_actors.proofs.Said.{said_is, none_said, admit_stop}
use Rattle.wf_actors.proofs.Admitting.{admits_of}
use Rattle.wf_actors.proofs.answering.answer.Goals as goal

pub returns-clause-admits : goal.returns-clause-admits
returns-clause-admits g c =
    let e = c.admit.ensures in
    admits_of g.D.Disk.told c.args.node.now c.admit.new.node c.args.item.now.request c.args.item.now.outer c.history-made.ensures.fits e.keeps e.cause.later c.admit.result e.new e.old

pub returns-clause-said : goal.returns-clause-said
returns-clause-said g c =
    let e = c.admit.ensures in
    subst (λ r. IfOk r (IsSaid c.args.node.now.past c.admit.new.node.past c.args.item.now)) (sym c.answer_by.ensures)
    (said_is c.args.node.now c.admit.new.node c.args.item.now c.admit.result e.answer e.new e.old)

pub returns-clause-none : goal.returns-clause-none
returns-clause-none g c err =
    none_said c.args.node.now c.admit.new.node c.args.item.now c.admit.result c.admit.ensures.old (subst (λ r. IsErr r) c.answer_by.ensures err)

pub returns-clause-stopped : goal.returns-clause-stopped
returns-clause-stopped g c =
    let e = c.admit.ensures in
    let told = g.D.Disk.told in
    subst (λ r. IfErr r (IsStopOf told c.args.node.now c.admit.new.node)) (sym c.answer_by.ensures)
    (admit_stop told c.args.node.now c.admit.new.node c.args.item.now.request c.args.item.now.outer c.requires.working c.admit.result e.answer e.short e.place e.cause)

pub returns-clause-working : goal.returns-clause-working
returns-clause-working g c unlike = c.admit.ensures.working (λ is. unlike (c.answer_by.ensures ∙ ap said_by is))
