use Rattle.std.proofs.Common.{◌≡◌, ◌∙◌, List, ℕ, length, refl, sym, true≢false}
use Rattle.wf_disk.proofs.Runs.{from_some, cause_since}
use Rattle.wf_trail.proofs.Readings.{cause_told}
use Rattle.wf_trail.proofs.Crashes.{idle, still_then, then_still}
use Rattle.wf_trail.proofs.reading.read_disk.Goals as goal

pub read_sized-requires : goal.read_sized-requires
read_sized-requires g c = λ file image.
    from_some (g.D.Disk.told c.args.disk).image (λ (old : List ℕ). c.in-Ok.size ≡ length old) file c.in-Ok.ensures.value (sym c.size.ensures.same.image ∙ image)

pub returns-in-Ok-clause-kept : goal.returns-in-Ok-clause-kept
returns-in-Ok-clause-kept g c = λ file image. c.read_sized.ensures.kept file (c.size.ensures.same.image ∙ image)

pub returns-in-Ok-clause-image : goal.returns-in-Ok-clause-image
returns-in-Ok-clause-image g c = c.read_sized.ensures.image ∙ c.size.ensures.same.image

pub returns-in-Ok-clause-cause : goal.returns-in-Ok-clause-cause
returns-in-Ok-clause-cause g c =
    cause_since _ _ _ _ _ (c.in-Ok.ensures.cause.kept (λ failed. true≢false (sym failed))) c.read_sized.ensures.cause (λ failed. failed) (λ failed. failed)

pub returns-in-Ok-clause-crash : goal.returns-in-Ok-clause-crash
returns-in-Ok-clause-crash g c = still_then _ _ _ (g.met.D.Disk.lawful c.args.disk) c.size.ensures.same c.read_sized.ensures.crash

pub returns-in-Err-clause-crash : goal.returns-in-Err-clause-crash
returns-in-Err-clause-crash g c = then_still _ _ _ (idle _ (g.met.D.Disk.lawful c.args.disk)) c.size.ensures.same

pub returns-in-Err-clause-cause : goal.returns-in-Err-clause-cause
returns-in-Err-clause-cause g c = cause_told _ _ _ _ c.in-Err.ensures.cause (λ failed. refl) (λ failed. refl)
