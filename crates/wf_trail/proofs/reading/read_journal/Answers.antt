use Rattle.std.proofs.Common.{◌≡◌, ◌∙◌, Option, Result, sym, ap, subst}
use Rattle.std.specs.Prelude.{IsErrOf}
use Rattle.wf_disk.specs.Disk.{HasCause}
use Rattle.wf_disk.proofs.Runs.{cause_since}
use Rattle.wf_histories.specs.Histories.{History}
use Rattle.wf_steps.specs.declared.fault.RecoverFault.{RecoverFault}
use Rattle.wf_steps.specs.declared.fault.RecoverFault.TheVariants as steps
use Rattle.wf_journal.specs.Start.{LeavesStart}
use Rattle.wf_trail.specs.Images.{kept_in}
use Rattle.wf_trail.specs.Telling.{IsKept, IsFault}
use Rattle.wf_trail.proofs.Readings.{whole_is, start_fault_is, image_kept, cause_start}
use Rattle.wf_trail.proofs.Crashes.{then_still}
use Rattle.wf_trail.proofs.reading.read_journal.Goals as goal

pub returns-in-Ok-clause-kept : goal.returns-in-Ok-clause-kept
returns-in-Ok-clause-kept g c = λ file image.
    let there = c.in-Ok.ensures.kept.same file image (c.requires file image) in
    subst (λ (wanted : Result (Option History) RecoverFault). IsKept wanted c.replica_in-kept.result)
    (sym (whole_is c.args.part file (c.in-Ok.ensures.whole file image (c.requires file image))))
    (c.replica_in-kept.ensures.kept file there (c.in-Ok.ensures.begins file there))

pub returns-in-Ok-clause-image : goal.returns-in-Ok-clause-image
returns-in-Ok-clause-image g c =
    ap (λ (d : g.row.D.Denot). (g.D.Disk.told d).image) c.close.ensures
    ∙ c.replica_in-kept.ensures.same.image
    ∙ image_kept _ _ c.in-Ok.ensures.kept.tells (λ file image. c.in-Ok.ensures.kept.same file image (c.requires file image))

pub returns-in-Ok-clause-cause : goal.returns-in-Ok-clause-cause
returns-in-Ok-clause-cause g c =
    let P : g.row.D.Denot → Type 0 = λ d. HasCause (g.D.Disk.told c.args.disk) (g.D.Disk.told d) (IsErrOf c.replica_in-kept.result steps.DiskFailed) in
    subst P (sym c.close.ensures) (cause_since _ _ _ _ _ c.in-Ok.ensures.faults c.replica_in-kept.ensures.cause (λ failed. failed) (λ failed. failed))

pub returns-in-Ok-clause-crash : goal.returns-in-Ok-clause-crash
returns-in-Ok-clause-crash g c =
    let P : g.row.D.Denot → Type 0 = λ d. LeavesStart (g.D.Disk.told c.args.disk) (g.D.Disk.told d) in
    subst P (sym c.close.ensures) (then_still _ _ _ c.in-Ok.ensures.any_moment c.replica_in-kept.ensures.same)

pub returns-in-Err-clause-kept : goal.returns-in-Err-clause-kept
returns-in-Err-clause-kept g c = λ file image.
    subst (IsFault (kept_in c.args.part file)) (sym c.start_fault.ensures)
    (start_fault_is c.args.part file c.in-Err.refused.fault (λ at is. let bad = c.in-Err.ensures.bad at is file image in (bad.0, bad.1, bad.2)))

pub returns-in-Err-clause-image : goal.returns-in-Err-clause-image
returns-in-Err-clause-image g c =
    image_kept _ _ c.in-Err.ensures.kept_refused.tells (λ file image. c.in-Err.ensures.kept_refused.same file image (c.requires file image))

pub returns-in-Err-clause-cause : goal.returns-in-Err-clause-cause
returns-in-Err-clause-cause g c = cause_start _ _ c.in-Err.refused.fault c.start_fault.result c.start_fault.ensures c.in-Err.ensures.cause
