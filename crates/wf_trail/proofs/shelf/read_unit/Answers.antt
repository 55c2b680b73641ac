use Rattle.std.proofs.Common.{◌≡◌, refl, subst}
use Rattle.std.specs.Prelude.{IfOk, IfSome}
use Rattle.wf_disk.proofs.Runs.{cause_since, cause_none}
use Rattle.wf_parts.specs.declared.data.PartData.{PartData}
use Rattle.wf_parts.specs.Parts.{part_of}
use Rattle.wf_trail.specs.Images.{kept_in}
use Rattle.wf_trail.specs.Telling.{IsKept}
use Rattle.wf_trail.proofs.Crashes.{idle}
use Rattle.wf_trail.proofs.shelf.read_unit.Goals as goal

pub text_by-text-requires-clause-part : goal.text_by-text-requires-clause-part
text_by-text-requires-clause-part g c =
    let P : PartData → Type 0 = λ p. IfOk c.read_disk-disk.result.kept (λ kept. IfSome kept (λ replica. replica.part ≡ p)) in
    subst P c.in-Ok.ensures c.read_disk-disk.ensures.part

pub returns-in-Ok-clause-text : goal.returns-in-Ok-clause-text
returns-in-Ok-clause-text g c = λ file image.
    let P : PartData → Type 0 = λ p. IsKept (kept_in p file) c.read_disk-disk.result.kept in
    c.text_by-text.ensures.text (kept_in (part_of c.args.checked.now c.args.unit.0) file) (subst P c.in-Ok.ensures (c.read_disk-disk.ensures.kept file image))

pub returns-in-Ok-clause-cause : goal.returns-in-Ok-clause-cause
returns-in-Ok-clause-cause g c = cause_since _ _ _ _ _ refl c.read_disk-disk.ensures.cause c.text_by-text.ensures.cause.0 c.text_by-text.ensures.cause.1

pub returns-in-Err-clause-cause : goal.returns-in-Err-clause-cause
returns-in-Err-clause-cause g c = cause_none _ _ _ refl (λ failed. failed)

pub returns-in-Err-clause-crash : goal.returns-in-Err-clause-crash
returns-in-Err-clause-crash g c = idle _ (g.met.D.Disk.lawful c.args.disk)

pub returns-in-Ok-clause-lawful : goal.returns-in-Ok-clause-lawful
returns-in-Ok-clause-lawful g c = g.met.D.Disk.lawful c.read_disk-disk.result.disk

pub returns-in-Err-clause-lawful : goal.returns-in-Err-clause-lawful
returns-in-Err-clause-lawful g c = g.met.D.Disk.lawful c.args.disk
