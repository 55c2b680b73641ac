use Rattle.std.proofs.Common.{◌≡◌, ◌∙◌, All, ap, sym, subst}
use Rattle.std.proofs.lemmas.Result.{IfOk-weaker}
use Rattle.wf_parts.specs.declared.data.PartData.{PartData}
use Rattle.wf_parts.specs.Parts.{IsPart}
use Rattle.wf_parts.specs.Rows.{AreRows}
use Rattle.wf_semantics.specs.Snapshot.{Snapshot}
use Rattle.wf_views.specs.OwnSteps.{own_update, part_step}
use Rattle.wf_views.specs.Laws.{IsViewOf}
use Rattle.wf_flat.specs.Firing.{CanFire}
use Rattle.wf_flat.specs.Locking.{HasFewStarts}
use Rattle.wf_flat.specs.Sighted.{shown_by}
use Rattle.wf_flat.proofs.Reading.{can_fire_all}
use Rattle.wf_flat.proofs.Bounds.{few_starts}
use Rattle.wf_flat.proofs.steps.bounded_step.Goals as goal

pub step_of-requires-clause-part : goal.step_of-requires-clause-part
step_of-requires-clause-part c = subst IsPart (sym c.data-data.ensures.same) c.data-data.ensures.part

pub step_of-requires-clause-can : goal.step_of-requires-clause-can
step_of-requires-clause-can c =
    let given = c.data-data.result.now in
    let same = sym c.data-data.ensures.same in
    subst (λ (s : Snapshot). All (CanFire s.seen) given.transitions) (sym c.in_ok-sight.ensures)
    (can_fire_all given c.args.view.now (subst IsPart same c.data-data.ensures.part) (subst (λ (d : PartData). IsViewOf d c.args.view.now) same c.requires))

pub step_of-requires-clause-rows : goal.step_of-requires-clause-rows
step_of-requires-clause-rows c = subst (λ (d : PartData). AreRows d.transitions c.rows.result.now) (sym c.data-data.ensures.same) c.rows.ensures

pub returns-clause-step : goal.returns-clause-step
returns-clause-step c =
    let given = c.data-data.result.now in
    IfOk-weaker c.step_of.result (λ update. update ≡ part_step given c.args.step (shown_by c.in_ok-sight.sight) c.args.outers) (λ update. update ≡ own_update c.args.part.now c.args.step c.args.view.now c.args.outers)
    (λ update e. e ∙ ap (λ (s : Snapshot). part_step given c.args.step s c.args.outers) c.in_ok-sight.ensures ∙ ap (λ (d : PartData). own_update d c.args.step c.args.view.now c.args.outers) c.data-data.ensures.same)
    c.step_of.ensures

pub returns-clause-few : goal.returns-clause-few
returns-clause-few c =
    let given = c.data-data.result.now in
    let part = subst IsPart (sym c.data-data.ensures.same) c.data-data.ensures.part in
    IfOk-weaker c.step_of.result (λ update. update ≡ part_step given c.args.step (shown_by c.in_ok-sight.sight) c.args.outers) HasFewStarts
    (λ update e. subst HasFewStarts (sym (e ∙ ap (λ (s : Snapshot). part_step given c.args.step s c.args.outers) c.in_ok-sight.ensures)) (few_starts given c.args.step c.args.view.now c.args.outers part))
    c.step_of.ensures
