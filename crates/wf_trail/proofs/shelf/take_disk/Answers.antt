use Rattle.std.proofs.Common.{◌≡◌, ◌∙◌, refl, sym, ap, subst}
use Rattle.std.specs.Prelude.{Err}
use Rattle.wf_trail.specs.declared.fault.TrailFault.{TrailFault}
use Rattle.wf_trail.specs.Shelves.{IsOfDisk, IsOfUnits}
use Rattle.wf_trail.specs.Telling.{IsFree}
use Rattle.wf_trail.proofs.Leaving.{refused_keeps, take_is_free, take_failed, take_unit}
use Rattle.wf_trail.proofs.Crashes.{refused_bodies}
use Rattle.wf_trail.proofs.shelf.take_disk.Goals as goal

pub returns-in-Ok-clause-same : goal.returns-in-Ok-clause-same
returns-in-Ok-clause-same g c = c.in-Ok.ensures.cause.kept (λ failed. cc failed)

pub returns-in-Ok-clause-later : goal.returns-in-Ok-clause-later
returns-in-Ok-clause-later g c = c.take.ensures.cause.later

pub returns-in-Err-clause-kept : goal.returns-in-Err-clause-kept
returns-in-Err-clause-kept g c = refused_keeps c.args.name.now _ _ (c.in-Err.ensures.refused refl) c.take.ensures.others

pub returns-in-Err-clause-bodies : goal.returns-in-Err-clause-bodies
returns-in-Err-clause-bodies g c = refused_bodies c.args.name.now _ _ (c.in-Err.ensures.refused refl) c.take.ensures.others

pub returns-in-Err-clause-free : goal.returns-in-Err-clause-free
returns-in-Err-clause-free g c = subst IsFree (sym c.take_fault.ensures) (take_is_free c.args.unit c.in-Err.refused)

pub returns-in-Err-clause-later : goal.returns-in-Err-clause-later
returns-in-Err-clause-later g c = c.take.ensures.cause.later

pub returns-in-Err-clause-rose : goal.returns-in-Err-clause-rose
returns-in-Err-clause-rose g c = λ of. c.in-Err.ensures.cause.rose (ap Err (take_failed c.args.unit c.in-Err.refused (subst IsOfDisk c.take_fault.ensures of)))

pub returns-in-Err-clause-unit : goal.returns-in-Err-clause-unit
returns-in-Err-clause-unit g c = λ units within. subst (IsOfUnits units) (sym c.take_fault.ensures) (take_unit units c.args.unit c.in-Err.refused within)
